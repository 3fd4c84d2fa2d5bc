use Rattle.std.proofs.Common.{◌∙◌, ap, rules, sym, Ok}
use Rattle.mv_json.proofs.PartLemmas.{markets_taken}
use Rattle.mv_json.proofs.lists.markets_at.Goals as goal

pub returns-in-Some-Markets : goal.returns-in-Some-Markets
returns-in-Some-Markets c = λ value is.
    let (read, left) = markets_taken value c.in-Met.met c.take.new.self c.args.field c.in-Some-Markets.list (rw c.in-Met.is at is) (search rules) in
    (read ∙ ap (λ xs. Ok xs) (sym c.new.ensures), left)
