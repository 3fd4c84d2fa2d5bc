use Rattle.std.proofs.Common.{◌≡◌, sym, rules}
use Rattle.std.proofs.lemmas.List.Filters.{dedup_is}
use Rattle.std.proofs.lemmas.List.Kept.{Contains-dedup, Contains-from_dedup, IsStrictlySortedBy-dedup}
use Rattle.std.proofs.lemmas.List.Sorted.{Contains-permutation, IsPermutation-sym}
use Rattle.mv_pack.specs.contracts.key.BatchKeyEq.TheImpl.Laws as equal
use Rattle.mv_pack.specs.contracts.key.BatchKeyOrd.TheImpl.Laws as order
use Rattle.mv_hub.proofs.TrailLemmas.{batch-same}
use Rattle.mv_hub.proofs.trail.ascending.Goals as goal

pub returns : goal.returns
returns c =
    let same : c.in_ok-list.list.items ≡ c.args.batches.now = search rules in
    let moved = c.sort_unstable.ensures.permutation in
    rw (dedup_is _ _ _ c.dedup.ensures.filtered, sym same) (record {
      order = IsStrictlySortedBy-dedup order.total-law order.matches_eq-law _ c.sort_unstable.ensures.sorted;
      members = λ batch. (
        λ h. Contains-permutation _ _ batch (IsPermutation-sym _ _ moved) (Contains-from_dedup _ _ batch h),
        λ h. Contains-dedup equal.laws-law batch-same _ batch (Contains-permutation _ _ batch moved h),
      );
    })
