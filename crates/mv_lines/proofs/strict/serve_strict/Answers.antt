use Rattle.std.specs.Mem.{manually_drop_value}
use Rattle.std.proofs.lemmas.Result.{IfErr-weaker, on_ok_weaker}
use Rattle.mv_lines.proofs.StrictLemmas.{counted_input, ended_input, served_input}
use Rattle.mv_lines.proofs.strict.serve_strict.Goals as goal

-- the replies are those of a run whose lines are not counted
pub returns-clause-served : goal.returns-clause-served
returns-clause-served g c =
    on_ok_weaker c.answer_lines-ended.result (served_input _ c.answer_lines-ended.new.answering _ c.last.ensures _ _ _) c.answer_lines-ended.ensures.ok

-- and where a fault ended it too
pub returns-clause-ended : goal.returns-clause-ended
returns-clause-ended g c =
    IfErr-weaker c.answer_lines-ended.result _ _ (λ fault ended. ended_input _ c.answer_lines-ended.new.answering _ c.last.ensures _ _ fault _ _ ended)
    c.answer_lines-ended.ensures.err

-- what was counted by then
pub returns-clause-err : goal.returns-clause-err
returns-clause-err g c =
    IfErr-weaker c.answer_lines-ended.result _ _ (λ fault ended. counted_input fault _ (manually_drop_value c.counted.inside.session) _ _ _ _ _ _ c.last.ensures c.counted.view_is ended)
    c.answer_lines-ended.ensures.ended
