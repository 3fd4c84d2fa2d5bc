-- What a repository is seen as: its party, and its log, the complete record of what it applied (Regulation (EU) 2016/161, Article
-- 35(1)), the oldest entry first. No table is part of it. Its products, packs and verdicts go by stamp order, and what is listed goes in
-- the order of arrival.
use Rattle.std.specs.Prelude.{◌∷◌, ◌++◌, if◌then◌else◌, ◌==◌}
use Rattle.mv_repository.specs.Words.{ℕ, List, [], Option, Some, None, bytes_eq, filter_map, last_or, Master, Product, Item, Carried, LogEntry, map, filter, length, false, flat_map, option_map_or, distinct_count, PackKey, BatchKey, Upload, Status, insert_all, Counts, Recall, is_same_pack, is_same_batch, pack_key}
use Rattle.mv_repository.specs.Order.{ordered}
use Rattle.mv_repository.specs.Pack.{is_active, pack_state}

pub record RepositoryState : Type 0 where
  pub party : ℕ  -- whose repository it is
  pub log : List LogEntry  -- what it applied, the oldest entry first

-- a repository that applied nothing
abbrev pub new_repository : ℕ → RepositoryState
new_repository party = record { party = party; log = [] }

-- the repository once an item from a sender is applied
abbrev pub with_applied : RepositoryState → ℕ → Item → RepositoryState
with_applied repository sender item = record repository { log = repository.log ++ record { sender = sender; item = item } ∷ [] }

-- the product that an item gives under a code: that of a master of the code
abbrev pub product_under : List ℕ → Item → Option Product
product_under gtin (Carried k stamp (Master named product)) = if bytes_eq named gtin then Some product else None
product_under gtin _ = None

-- the product that a log means under a code: that of the master with the greatest stamp, none where there is no master
abbrev pub product_of : List LogEntry → List ℕ → Option Product
product_of log gtin = last_or None (filter_map (λ placed. product_under gtin placed.entry.item) (ordered log))

-- the items of a log that came from a party, in order
abbrev pub items_from : List LogEntry → ℕ → List Item
items_from [] party = []
items_from (entry ∷ log) party = if entry.sender == party then entry.item ∷ items_from log party else items_from log party

-- the product codes that an item has a master of
abbrev pub mastered_in : Item → List (List ℕ)
mastered_in (Carried k stamp (Master gtin product)) = gtin ∷ []
mastered_in _ = []

-- the packs that an item uploads
abbrev pub uploaded_in : Item → List PackKey
uploaded_in (Carried k stamp (Upload gtin batch expiry national serials)) = map (pack_key gtin) serials
uploaded_in _ = []

-- the batches that an item recalls
abbrev pub recalled_in : Item → List BatchKey
recalled_in (Carried k stamp (Recall key at)) = key ∷ []
recalled_in _ = []

-- the serial numbers of a product that an item names: those of an upload, or that of a status
abbrev pub serials_in : List ℕ → Item → List (List ℕ)
serials_in gtin (Carried k stamp (Upload named batch expiry national serials)) = if bytes_eq named gtin then serials else []
serials_in gtin (Carried k stamp (Status key to user at)) = if bytes_eq key.gtin gtin then key.serial ∷ [] else []
serials_in gtin _ = []

-- the serial numbers of a product that uploads and statuses of a log name, each once, in the order in which each came first
abbrev pub serials_of : List LogEntry → List ℕ → List (List ℕ)
serials_of log gtin = insert_all bytes_eq [] (flat_map (λ entry. serials_in gtin entry.item) log)

-- all packs uploaded in a log, in the order of arrival
abbrev pub uploaded_packs : List LogEntry → List PackKey
uploaded_packs log = flat_map (λ entry. uploaded_in entry.item) log

-- the counts of a log, each thing counted once
abbrev pub counts_of : List LogEntry → Counts
counts_of log = record {
  entries = length log;
  products = distinct_count bytes_eq (flat_map (λ entry. mastered_in entry.item) log);
  packs = distinct_count is_same_pack (uploaded_packs log);
  active = distinct_count is_same_pack (filter (λ pack. option_map_or (λ held. is_active held.standing) (pack_state pack log) false) (uploaded_packs log));
  recalled = distinct_count is_same_batch (flat_map (λ entry. recalled_in entry.item) log);
}
