use Rattle.mv_workers.proofs.Words.{arith, common_steps, length-map}
use Rattle.mv_workers.proofs.PlanLemmas.{fresh_ends, fresh_unused}
use Rattle.mv_workers.proofs.crew.Crew.of.Goals as goal

-- there is a list for each end
pub invariant_of-result-clause-each : goal.invariant_of-result-clause-each
invariant_of-result-clause-each c = grind (arith, common_steps, fresh_ends, length-map)

-- nothing was submitted at them
pub invariant_of-result-clause-unused : goal.invariant_of-result-clause-unused
invariant_of-result-clause-unused c = fresh_unused _ _ _ _ c.in_ok-ends.ensures.ends c.in_ok-ends.ensures.fresh
