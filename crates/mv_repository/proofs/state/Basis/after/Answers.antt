-- Found at once where no other search comes first.
use Rattle.mv_repository.proofs.Words.{arith, common_steps}
use Rattle.mv_repository.proofs.state.Basis.after.Goals as goal

pub loop-place-preserved : goal.loop-place-preserved
loop-place-preserved c = grind (arith, common_steps)
