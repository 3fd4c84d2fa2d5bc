-- What is kept of each pack of a product: a pack that has no status has a slot alone, and each other a track. The serial number of a pack
-- stands in the upload that made it, or among the names of the packs that have a track.
use Rattle.std.specs.Prelude.{◌≡◌, ◌==◌, ◌||◌, ◌<◌, ◌≤◌, if◌then◌else◌}
use Rattle.mv_index.specs.Hashes.{short_hash}
use Rattle.mv_pack.specs.Code.{code_pieces}
use Rattle.mv_repository.specs.declared.listing.Listing.{Listing}
use Rattle.mv_repository.specs.declared.slots.Spot.{Spot}
use Rattle.mv_repository.specs.Words.{ℕ, List, [], get_or, Bool, true, false, Option, Some, None, IfSome, bytes_eq, keys_of, lookup, option_and_then, option_map_or, not, Message, Slot, Status, Made, Own, list_any, Upload, Item, Carried, LogEntry, insert_key, pack_key, unwrap_or, Stop, OfBatch, OfProduct, length, map, AllByRecursion, IsDistinct}
use Rattle.mv_repository.specs.inside.Track.{comes_first, made_batch, Kept, Life, life_of, IsKept, IsTrack}
use Rattle.mv_repository.specs.Bearing.{FirstStops, entry_at}
use Rattle.mv_repository.specs.Repository.{serials_of}

-- the serial numbers that an item uploads
abbrev pub serials_uploaded : Item → List (List ℕ)
serials_uploaded (Carried k stamp (Upload gtin batch expiry national serials)) = serials
serials_uploaded _ = []

-- the serial number of the pack that a slot stands for
abbrev pub serial_of : List LogEntry → List (List ℕ) → Slot → List ℕ
serial_of log names (Made index place) = get_or (serials_uploaded (entry_at log place).entry.item) index []
serial_of log names (Own number) = get_or names number []

-- a slot where there is none
abbrev pub no_slot : Slot
no_slot = Made 0 0

-- it is there
abbrev pub IsNamed : List LogEntry → List (List ℕ) → Slot → Type 0
IsNamed log names (Made index place) = index < length (serials_uploaded (entry_at log place).entry.item)
IsNamed log names (Own number) = number < length names

-- the slots, each under its serial number
abbrev pub keyed : List LogEntry → List (List ℕ) → List Slot → List (List ℕ × Slot)
keyed log names slots = map (λ slot. (serial_of log names slot, slot)) slots

-- the hash of a serial number
abbrev pub serial_hash : List ℕ → ℕ
serial_hash serial = short_hash (code_pieces serial)

-- what is kept of slots: each has the hash of its serial number; and the serial numbers of the packs that have a track
pub record SlotTable : Type 0 where
  pub hashes : List ℕ
  pub slots : List Slot
  pub names : List (List ℕ)

-- the slots stand for packs by a log, each for one
pub record AreSlots (log : List LogEntry) (table : SlotTable) : Type 0 where
  pub hashes : table.hashes ≡ map serial_hash (keys_of (keyed log table.names table.slots))
  pub named : AllByRecursion (IsNamed log table.names) table.slots
  pub distinct : IsDistinct bytes_eq (keys_of (keyed log table.names table.slots))

-- where a serial number stands among the slots, or would stand
pub record IsSpot (log : List LogEntry) (table : SlotTable) (serial : List ℕ) (spot : Spot) : Type 0 where
  pub hash : spot.hash ≡ serial_hash serial
  pub slot : spot.slot ≡ lookup (bytes_eq serial) (keyed log table.names table.slots)
  pub number : spot.number < length table.slots → serial_of log table.names (get_or table.slots spot.number no_slot) ≡ serial
  pub none : length table.slots ≤ spot.number → spot.slot ≡ None

-- a slot is under a serial number, and each other where it was
pub record IsEntered (old new : List (List ℕ × Slot)) (serial : List ℕ) (slot : Slot) : Type 0 where
  pub keys : keys_of new ≡ insert_key bytes_eq (keys_of old) serial
  pub found : (other : List ℕ) → lookup (bytes_eq other) new ≡ (if bytes_eq serial other then Some slot else lookup (bytes_eq other) old)

-- a slot was written under a serial number
abbrev pub IsWritten : List LogEntry → SlotTable → SlotTable → List ℕ → Slot → Type 0
IsWritten log old new serial slot = AreSlots log new × IsEntered (keyed log old.names old.slots) (keyed log new.names new.slots) serial slot

-- a slot is written where a serial number stands
abbrev pub Writes : Spot → Slot → SlotTable → SlotTable → Type 0
Writes spot slot old new =
    (log : List LogEntry) (serial : List ℕ) → AreSlots log old → IsSpot log old serial spot → IsNamed log old.names slot → serial_of log old.names slot ≡ serial
    → IsWritten log old new serial slot

-- nothing is kept
abbrev pub nothing_kept : Kept
nothing_kept = record { birth = None; statuses = []; by = 0; blocks = [] }

-- what a slot stands for
abbrev pub kept_by : List Kept → Option Slot → Kept
kept_by tracks None = nothing_kept
kept_by tracks (Some (Made index place)) = record { birth = Some place; statuses = []; by = place; blocks = [] }
kept_by tracks (Some (Own number)) = get_or tracks number nothing_kept

-- the numbers of tracks by batch; where memory was refused for one, they are not all
pub record ListingTable : Type 0 where
  pub is_whole : Bool
  pub numbers : List (List ℕ × List ℕ)

-- what a listing says of batches
abbrev pub listing_of : Listing → ListingTable
listing_of listing = record { is_whole = listing.is_whole; numbers = listing.batches.entries }

-- what is kept of the packs of a product
pub record ShelfTable : Type 0 where
  pub slots : List (List ℕ × Slot)
  pub tracks : List Kept
  pub listing : ListingTable

-- the same as it is kept
pub record ShelfParts : Type 0 where
  pub table : SlotTable
  pub room : ℕ  -- for so many packs more
  pub tracks : List Kept
  pub listing : ListingTable

-- what is kept so by a log
abbrev pub shelf_by : List LogEntry → ShelfParts → ShelfTable
shelf_by log parts = record { slots = keyed log parts.table.names parts.table.slots; tracks = parts.tracks; listing = parts.listing }

-- what is kept of a pack of the product, by its serial number
abbrev pub kept_in : ShelfTable → List ℕ → Kept
kept_in shelf serial = kept_by shelf.tracks (lookup (bytes_eq serial) shelf.slots)

-- a message uploads packs of a product, or changes one of them
abbrev pub IsOfProduct : List ℕ → Message → Type 0
IsOfProduct gtin (Upload named batch expiry national serials) = named ≡ gtin
IsOfProduct gtin (Status key to user at) = key.gtin ≡ gtin
IsOfProduct gtin _ = ⊥

-- a number may be of a batch: any may, where they are not all
abbrev pub lists : ListingTable → List ℕ → ℕ → Bool
lists listing batch number = not listing.is_whole || option_map_or (λ numbers. list_any (λ one. number == one) numbers) (lookup (bytes_eq batch) listing.numbers) false

-- a stop may bear on the pack of a track
abbrev pub may_stop : ListingTable → Stop → ℕ → Bool
may_stop listing (OfBatch batch) number = lists listing batch.now.batch number
may_stop listing (OfProduct gtin) number = true

-- a pack's track may be of a batch, where it has one
abbrev pub is_listed : ListingTable → Option Slot → List ℕ → Bool
is_listed listing (Some (Own number)) batch = lists listing batch number
is_listed listing _ batch = true

-- a pack is kept on a shelf as a log means it, and its track is listed under its batch, which is that of the upload that made it
pub record IsPackOf (life : Life) (shelf : ShelfTable) (serial : List ℕ) : Type 0 where
  pub kept : IsKept life (kept_in shelf serial)
  pub listed : IfSome (option_and_then made_batch life.birth) (λ batch. is_listed shelf.listing (lookup (bytes_eq serial) shelf.slots) batch ≡ true)

-- a shelf is that of a product by a log: it keeps each pack, and has a slot for each serial number that the log names, in their order
pub record IsShelfOf (log : List LogEntry) (gtin : List ℕ) (shelf : ShelfTable) : Type 0 where
  pub packs : (serial : List ℕ) → IsPackOf (life_of (pack_key gtin serial) log) shelf serial
  pub serials : keys_of shelf.slots ≡ serials_of log gtin

-- what is kept on a shelf is that of a product by a log
pub record AreShelfOf (log : List LogEntry) (gtin : List ℕ) (parts : ShelfParts) : Type 0 where
  pub slots : AreSlots log parts.table
  pub shelf : IsShelfOf log gtin (shelf_by log parts)

-- a shelf with no pack
abbrev pub no_shelf : ShelfParts
no_shelf = record { table = record { hashes = []; slots = []; names = [] }; room = 0; tracks = []; listing = record { is_whole = true; numbers = [] } }

-- the shelf of a product
abbrev pub shelf_of : List ℕ → List (List ℕ × ShelfParts) → ShelfParts
shelf_of gtin shelves = unwrap_or (lookup (bytes_eq gtin) shelves) no_shelf

-- a track was worked out again by a log, where its pack has this upload
pub record IsAgain (log : List LogEntry) (stops : FirstStops) (gtin : List ℕ) (upload : Option ℕ) (old new : Kept) : Type 0 where
  pub birth : new.birth ≡ upload
  pub statuses : new.statuses ≡ old.statuses
  pub worked : IsTrack log stops gtin new

-- what is kept of one pack was written; each other that was kept as a log means it still is
pub record IsChanged (serial : List ℕ) (old new : ShelfTable) : Type 0 where
  pub keys : keys_of new.slots ≡ insert_key bytes_eq (keys_of old.slots) serial
  pub others : (other : List ℕ) (life : Life) → bytes_eq serial other ≡ false → IsPackOf life old other → IsPackOf life new other

-- the newest entry, an upload that names a pack, was put into what is kept of the pack, where it is the first such
pub record IsPut (log : List LogEntry) (stops : FirstStops) (gtin : List ℕ) (place : ℕ) (serial : List ℕ) (old new : ShelfTable) : Type 0 where
  pub changed : IsChanged serial old new
  pub later : comes_first log place (kept_in old serial).birth ≡ false → new ≡ old
  pub again : comes_first log place (kept_in old serial).birth ≡ true → IsAgain log stops gtin (Some place) (kept_in old serial) (kept_in new serial)
  pub listed : comes_first log place (kept_in old serial).birth ≡ true → IfSome (made_batch (entry_at log place)) (λ batch. is_listed new.listing (lookup (bytes_eq serial) new.slots) batch ≡ true)

-- a track was worked out again, or it stays
abbrev pub IsRefreshed : List LogEntry → FirstStops → List ℕ → Bool → Kept → Kept → Type 0
IsRefreshed log stops gtin true old new = IsAgain log stops gtin old.birth old new
IsRefreshed log stops gtin false old new = new ≡ old
