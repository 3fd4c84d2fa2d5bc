use Rattle.mv_hub.proofs.Words.{Gathers, take}
use Rattle.mv_hub.proofs.trail.add_all.Given as goal

abbrev pub invariant-loop-batch : goal.invariant-loop-batch
invariant-loop-batch l = Gathers l.fn.set.keys (take l.batch-index l.batches) l.set.keys
