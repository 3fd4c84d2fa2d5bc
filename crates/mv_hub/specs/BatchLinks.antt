-- Links between batches: a routed repack makes packs of the batch before into packs of the batch after.
use Rattle.std.specs.Prelude.{List, [], ◌∷◌, ◌↔◌, Contains, Option, Some, None, if◌then◌else◌}
use Rattle.mv_hub.specs.Words.{BatchKey, Entry, Repack, Routed, filter_map, is_same_batch, slice_cmp}
use Rattle.std.specs.Ordering.{nat_cmp, ordering_then}
use Rattle.std.specs.declared.cmp.Ordering.{Ordering}
use Rattle.std.specs.List.Sorted.{IsStrictlySortedBy}

-- batches in the order of the bytes of their product code, and of one product in that of the bytes of their number
abbrev pub batch_cmp : BatchKey → BatchKey → Ordering
batch_cmp a b = ordering_then (slice_cmp nat_cmp a.gtin b.gtin) (slice_cmp nat_cmp a.batch b.batch)

-- a list has the batches of which this holds, ascending and each once
pub record IsAscendingList (list : List BatchKey) (P : BatchKey → Type 0) : Type 0 where
  pub order : IsStrictlySortedBy batch_cmp list
  pub members : (batch : BatchKey) → Contains list batch ↔ P batch

-- the batch that an entry links to a batch: the batch after of a routed repack whose batch before it is
abbrev pub link_in : BatchKey → Entry → Option BatchKey
link_in batch (Routed from k (Repack before before_serials after after_serials at)) =
    if is_same_batch before batch then Some after else None
link_in batch entry = None

-- the batches after, over all routed repacks whose batch before is this one, in the order of the record
unfoldable pub linked_to : List Entry → BatchKey → List BatchKey
linked_to entries batch = filter_map (link_in batch) entries

-- where these batches are linked to each, a chain of links leads from a batch to another, over these batches between them
abbrev pub IsChain : (BatchKey → List BatchKey) → BatchKey → List BatchKey → BatchKey → Type 0
IsChain links batch [] other = Contains (links batch) other
IsChain links batch (next ∷ between) other = Contains (links batch) next × IsChain links next between other

-- a chain of one or more links leads from a batch to another: of the first the other was made by repacks that were routed, whichever packs they took,
-- and in whatever order they were routed
abbrev pub IsDescendant : List Entry → BatchKey → BatchKey → Type 0
IsDescendant entries batch other = (between : List BatchKey) × IsChain (linked_to entries) batch between other
