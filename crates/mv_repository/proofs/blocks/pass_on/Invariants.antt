use Rattle.mv_repository.proofs.Words.{◌≡◌, fold, length, take, drop, AreBlocks, IsFront, entry_at, next_in}
use Rattle.mv_repository.proofs.blocks.pass_on.Given as goal

-- the blocks so far are right, in front of the rest; the others are as they were
abbrev pub invariant-loop-number : goal.invariant-loop-number
invariant-loop-number l = record {
  count : length l.blocks.items ≡ length l.fn.blocks.items;
  behind : AreBlocks (entry_at l.basis.log.now) (next_in l.basis) l.basis.birth l.before (drop l.number l.blocks.items) l.rest;
  standing : l.fn.standing ≡ fold (next_in l.basis) l.before l.rest;
  by : fold (next_in l.basis) l.last l.rest ≡ fold (next_in l.basis) l.basis.birth l.own;
  front : IsFront (entry_at l.basis.log.now) (next_in l.basis) l.basis.birth (take l.number l.blocks.items) l.own l.last l.rest;
}
