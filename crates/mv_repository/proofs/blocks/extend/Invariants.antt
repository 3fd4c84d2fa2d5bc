use Rattle.mv_repository.proofs.Words.{◌≡◌, ℕ, List, fold, length, IsFront, entry_at, next_in}
use Rattle.mv_repository.proofs.blocks.extend.Given as goal

-- the blocks so far are right, in front of the rest
abbrev pub invariant-loop-rest : goal.invariant-loop-rest
invariant-loop-rest l = record {
  front : (all : List ℕ) → IsFront (entry_at l.basis.log.now) (next_in l.basis) l.basis.birth l.fn.blocks.items all l.by l.own
      → IsFront (entry_at l.basis.log.now) (next_in l.basis) l.basis.birth l.blocks.items all l.last l.rest;
  by : fold (next_in l.basis) l.last l.rest ≡ fold (next_in l.basis) l.by l.own;
}

abbrev pub decreases-loop-rest : goal.decreases-loop-rest
decreases-loop-rest l = length l.rest
