use Rattle.std.proofs.Common.{◌≡◌, length}
use Rattle.mv_index.specs.inside.Chains.{IsChained, hashes_of}
use Rattle.mv_index.proofs.index.chain_all.Given as goal

-- the numbers so far are chained
abbrev pub invariant-loop-number : goal.invariant-loop-number
invariant-loop-number l = record {
  chained : IsChained l.buckets.items l.links l.number;
  count : length l.buckets.items ≡ l.count;
  hashes : hashes_of l.links ≡ hashes_of l.fn.links;
}
