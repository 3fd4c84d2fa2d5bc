use Rattle.mv_lines.proofs.Words.{IfErr, Result, Ok, Err, rules}
use Rattle.mv_lines.proofs.StrictLemmas.{not_said}
use Rattle.mv_engine.specs.Lines.{line_at}
use Rattle.mv_lines.proofs.session.SessionAnswering.answer.Goals as goal

always : {A E X : Type 0} (r : Result A E) → X → IfErr r (λ (e : E). X)
always (Ok u) x = tt
always (Err e) x = x

-- what was not written
pub returns-in_err-say-clause-left : goal.returns-in_err-say-clause-left
returns-in_err-say-clause-left c =
    let said = not_said _ _ (line_at c.args._number c.args.line.now) _ _ c.say.result c.say.ensures in
    always c.from_residual.result (search (rules, said))
