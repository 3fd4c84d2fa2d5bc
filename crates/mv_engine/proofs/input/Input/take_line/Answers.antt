use Rattle.mv_engine.proofs.Words.{arith, append-nil, sym, [], ◌∙◌, common_steps, err_from_is_err_and, rules}
use Rattle.mv_engine.proofs.PartLemmas.{unended_rest, unended_whole}
use Rattle.mv_engine.proofs.RepliesLemmas.{line_unanswered, none_may_follow, rest_from-append, stopped_in, whole_from-append}
use Rattle.mv_engine.proofs.input.Input.take_line.Goals as goal

-- the line may not be so long, or no line may follow
pub returns-in_err-check_part-clause-err : goal.returns-in_err-check_part-clause-err
returns-in_err-check_part-clause-err g c =
    let p = err_from_is_err_and c.from_residual.result c.from_residual.ensures.1 in
    rw (p.1, p.2) (λ tail. ([], sym (append-nil _), grind (arith, stopped_in)))

-- no line may follow
pub returns-then-self-eq-LINES_LIMIT-clause-err : goal.returns-then-self-eq-LINES_LIMIT-clause-err
returns-then-self-eq-LINES_LIMIT-clause-err g c = λ tail. grind (arith, common_steps, none_may_follow)

-- the line got no reply
pub returns-in_err-answer_line-clause-err : goal.returns-in_err-answer_line-clause-err
returns-in_err-answer_line-clause-err g c =
    let p = err_from_is_err_and c.from_residual-in_err-answer_line.result c.from_residual-in_err-answer_line.ensures.1 in
    rw (p.1, p.2, c.in_err-answer_line.ensures.fault) (λ tail. ([], c.in_err-answer_line.ensures.err ∙ sym (append-nil _), grind (arith, line_unanswered)))

-- the line is answered
pub returns-clause-ok : goal.returns-clause-ok
returns-clause-ok g c = search (rules, rest_from-append, unended_rest, unended_whole, whole_from-append)
