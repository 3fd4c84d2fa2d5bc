use Rattle.mv_tool.proofs.Words.{arith, err_from_is_err_and}
use Rattle.mv_tool.proofs.WorkLemmas.{worked_part, worked_whole}
use Rattle.mv_tool.proofs.working.work.Goals as goal

-- memory was refused, or a plan could not be started
pub returns-in_err-output-clause-err : goal.returns-in_err-output-clause-err
returns-in_err-output-clause-err g c = grind (arith, err_from_is_err_and)

-- the write failed
pub returns-in_err-put_out-clause-err : goal.returns-in_err-put_out-clause-err
returns-in_err-put_out-clause-err g c = grind (arith, err_from_is_err_and, worked_part)

-- the output went out
pub returns-clause-ok : goal.returns-clause-ok
returns-clause-ok g c =
    worked_whole _ _ _ _ _ _ _ c.in_ok-output.output.finished c.in_ok-planned.ensures.ok c.in_ok-output.ensures.ok c.as_bytes.ensures.value c.in_ok-put_out.ensures.ok
