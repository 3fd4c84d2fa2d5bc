use Rattle.mv_repository.proofs.Words.{take, AllByRecursion, IsCovered, entry_at}
use Rattle.mv_repository.proofs.blocks.Block.of.Given as goal

-- those so far are covered
abbrev pub invariant-loop-place : goal.invariant-loop-place
invariant-loop-place l = AllByRecursion (λ place. IsCovered l.reverters (entry_at l.basis.log.now place)) (take l.place-index l.own)
