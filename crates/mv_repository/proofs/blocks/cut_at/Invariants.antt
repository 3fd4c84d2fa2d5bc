use Rattle.mv_repository.proofs.Words.{◌≤◌, ◌-◌, ℕ, List, length, AreBlocks, IsCut, entry_at, next_in}
use Rattle.mv_repository.proofs.blocks.cut_at.Given as goal

-- the blocks so far end at the cut
abbrev pub invariant-loop-cut : goal.invariant-loop-cut
invariant-loop-cut l = record {
  at : l.cut.start ≤ l.at;
  number : l.cut.number ≤ length l.blocks.items;
  cut : (own : List ℕ) → AreBlocks (entry_at l.basis.log.now) (next_in l.basis) l.basis.birth l.basis.birth l.blocks.items own
      → IsCut (entry_at l.basis.log.now) (next_in l.basis) l.basis.birth l.blocks.items own l.cut;
}

abbrev pub decreases-loop-cut : goal.decreases-loop-cut
decreases-loop-cut l = length l.blocks.items - l.cut.number
