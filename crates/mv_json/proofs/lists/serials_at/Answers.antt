use Rattle.std.proofs.Common.{◌∙◌, ap, rules, sym, Ok}
use Rattle.mv_json.proofs.PartLemmas.{serials_taken}
use Rattle.mv_json.proofs.lists.serials_at.Goals as goal

pub returns-in-Some-Serials : goal.returns-in-Some-Serials
returns-in-Some-Serials c = λ value is.
    let (read, left) = serials_taken value c.in-Met.met c.take.new.self c.args.field c.in-Some-Serials.list (rw c.in-Met.is at is) (search rules) in
    (read ∙ ap (λ xs. Ok xs) (sym c.new.ensures), left)
