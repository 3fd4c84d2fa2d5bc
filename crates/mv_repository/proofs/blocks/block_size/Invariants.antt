use Rattle.mv_repository.proofs.Words.{◌≤◌, ◌-◌, BLOCK, length}
use Rattle.mv_repository.proofs.blocks.block_size.Given as goal

-- so many are there
abbrev pub invariant-loop-size : goal.invariant-loop-size
invariant-loop-size l = record { least : BLOCK ≤ l.size; within : l.size ≤ length l.rest }

abbrev pub decreases-loop-size : goal.decreases-loop-size
decreases-loop-size l = length l.rest - l.size
