use Rattle.std.proofs.Common.{◌≡◌, ◌<◌, ◌≤◌, ◌-◌, ℕ, length, get_or, false}
use Rattle.mv_index.specs.inside.Chains.{bucket_at, bucket_of, hashes_of}
use Rattle.mv_index.proofs.index.HashIndex.find.Given as goal

-- what is looked for is none of the numbers from here on
abbrev pub invariant-loop-at : goal.invariant-loop-at
invariant-loop-at g l = record {
  within : l.at ≤ length l.self-inside.links.items;
  own : 0 < l.at → bucket_at (length l.self-inside.buckets.items) l.self-inside.links.items (l.at - 1) ≡ bucket_of (length l.self-inside.buckets.items) l.hash;
  none : (number : ℕ) → l.at ≤ number → number < length l.self-inside.links.items → get_or (hashes_of l.self-inside.links.items) number 0 ≡ l.hash → goal.F-post g l.is_it number false;
}

abbrev pub decreases-loop-at : goal.decreases-loop-at
decreases-loop-at g l = l.at
