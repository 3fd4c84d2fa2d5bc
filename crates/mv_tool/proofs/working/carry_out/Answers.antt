use Rattle.mv_tool.proofs.Words.{IfOk-weaker, arith}
use Rattle.mv_tool.proofs.WorkLemmas.{run_reported}
use Rattle.mv_tool.proofs.working.carry_out.Goals as goal

-- the report is that of an outcome of the plan
pub returns-in-Plan-clause-ok : goal.returns-in-Plan-clause-ok
returns-in-Plan-clause-ok g c =
    rw c.in-Plan.is (IfOk-weaker c.output_of.result _ _
    (λ output. run_reported output c.args.turns c.plan_of.result _ c.run_workers.result c.run_workers.ensures.complete c.run_workers.ensures.fault c.plan_of.ensures.parts) c.output_of.ensures.ok)

-- or there is none
pub returns-in-Plan-clause-err : goal.returns-in-Plan-clause-err
returns-in-Plan-clause-err g c = grind arith
