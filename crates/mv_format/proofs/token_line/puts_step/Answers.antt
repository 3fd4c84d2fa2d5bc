use Rattle.mv_format.proofs.Words.{[], begin_object, rules, sym, tokens, ◌∷◌, ◌≡◌}
use Rattle.std.proofs.lemmas.Option.{IfSome_then}
use Rattle.mv_format.proofs.LineFieldsLemmas.{line_asks}
use Rattle.mv_format.proofs.token_line.puts_step.Goals as goal

-- what is asked is all that the line holds
pub returns : goal.returns
returns c =
    let starts : c.new-reader.result ≡ tokens c.args.line.now = search (rules, c.in_ok-text.ensures.0) in
    let opens : tokens c.args.line.now ≡ begin_object ∷ c.takes_opening.new.self =
    rw starts at (c.takes_opening.ensures.opening c.if-not-takes_opening.false) in
    let (found, begins, has) = c.takes_members.ensures c.if-not-takes_members.false in
    let ended : c.takes_members.new.reader ≡ [] = search rules in
    let whole = rw (sym opens, ended) at begins in
    IfSome_then c.step_met.new.step c.step_met.ensures (λ step asked. line_asks _ _ c.in_ok-text.ensures.1 (found, whole, asked found has))
