use Rattle.mv_engine.proofs.Words.{[], refl, rules, err_from_is_err_and}
use Rattle.mv_engine.proofs.RepliesLemmas.{part_stopped}
use Rattle.mv_engine.proofs.PartLemmas.{unended_nil}
use Rattle.mv_engine.proofs.input.Input.finish.Goals as goal

-- the line got no reply
pub returns-in_err-answer_line-clause-err : goal.returns-in_err-answer_line-clause-err
returns-in_err-answer_line-clause-err g c =
    let p = err_from_is_err_and c.from_residual.result c.from_residual.ensures.1 in
    rw (p.1, p.2, c.in_err-answer_line.ensures.fault, c.in_err-answer_line.ensures.err, c.requires.empty)
    (part_stopped g.S.Answering.replies _ _ [] [] _ _ _ _ unended_nil c.args.self.now.few (search rules) (search rules) (λ other. absurd (other refl)))
