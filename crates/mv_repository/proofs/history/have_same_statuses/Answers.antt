-- Found at once where no other search comes first.
use Rattle.mv_repository.proofs.Words.{arith, common_steps}
use Rattle.mv_repository.proofs.history.have_same_statuses.Goals as goal

pub returns-then-one-other : goal.returns-then-one-other
returns-then-one-other c = grind (arith, common_steps)

pub returns-then-not-is_same_status : goal.returns-then-not-is_same_status
returns-then-not-is_same_status c = grind (arith, common_steps)

pub loop-index-preserved : goal.loop-index-preserved
loop-index-preserved c = grind (arith, common_steps)

pub returns : goal.returns
returns c = grind (arith, common_steps)
