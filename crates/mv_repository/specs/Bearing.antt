-- What bears on packs in a log. What stops a batch for ever: its first recall, and the first withdrawal of its product, by the order of
-- stamps; which batches a log recalls, and which products it withdraws; and a pack by its first upload and its statuses alone.
use Rattle.std.specs.Prelude.{◌∷◌, if◌then◌else◌}
use Rattle.mv_repository.specs.Words.{ℕ, List, [], find, get_or, Bool, false, Option, Some, None, bytes_eq, flat_map, insert_all, option_map_or, BatchKey, Withdraw, Item, Receipt, Carried, Message, LogEntry, BatchStanding, is_same_batch, option_and_then, option_map, Upload, Status, batch_key, fold, filter, PackKey, is_same_pack}
use Rattle.mv_repository.specs.Order.{Placed, stands_before}
use Rattle.mv_repository.specs.Pack.{is_recall_of, is_withdrawal_of, KnownPack, new_pack, has_pack, pack_after_status}
use Rattle.mv_repository.specs.Repository.{recalled_in}

-- the products that an item withdraws
abbrev pub withdrawn_in : Item → List (List ℕ)
withdrawn_in (Carried k stamp (Withdraw gtin at)) = gtin ∷ []
withdrawn_in _ = []

-- the batches that a log recalls, each once, in the order in which each came first
abbrev pub recalled_batches : List LogEntry → List BatchKey
recalled_batches log = insert_all is_same_batch [] (flat_map (λ entry. recalled_in entry.item) log)

-- the products that a log withdraws, each once, in the order in which each came first
abbrev pub withdrawn_products : List LogEntry → List (List ℕ)
withdrawn_products log = insert_all bytes_eq [] (flat_map (λ entry. withdrawn_in entry.item) log)

-- an entry that stands nowhere
abbrev pub no_entry : LogEntry
no_entry = record { sender = 0; item = Receipt 0 [] false }

-- the entry at a place of a log
abbrev pub entry_at : List LogEntry → ℕ → Placed
entry_at log place = record { place = place; entry = get_or log place no_entry }

-- the entry that stands there
abbrev pub entry_of : Placed → LogEntry
entry_of placed = placed.entry

-- the message that an item carries; none of a receipt
abbrev pub message_in : Item → Option Message
message_in (Carried k stamp message) = Some message
message_in _ = None

-- the first recall of each batch, and the first withdrawal of each product
pub record FirstStops : Type 0 where
  pub recall : BatchKey → Option Placed
  pub withdrawal : List ℕ → Option Placed

abbrev pub first_stops : List Placed → FirstStops
first_stops entries = record {
  recall = λ batch. find (λ placed. is_recall_of batch placed.entry.item) entries;
  withdrawal = λ gtin. find (λ placed. is_withdrawal_of gtin placed.entry.item) entries;
}

-- an entry, if there is one, stands before another
abbrev pub is_before : Option Placed → Placed → Bool
is_before first placed = option_map_or (λ one. stands_before one placed) first false

-- how a batch stands where an entry stands
abbrev pub standing_at : FirstStops → Placed → BatchKey → BatchStanding
standing_at stops placed batch = record { recalled = is_before (stops.recall batch) placed; withdrawn = is_before (stops.withdrawal batch.gtin) placed }

-- the pack that an upload makes; none where a message is no upload
abbrev pub pack_of : Message → Option KnownPack
pack_of (Upload gtin batch expiry national serials) = Some (new_pack batch expiry national)
pack_of _ = None

abbrev pub pack_made_by : Item → Option KnownPack
pack_made_by item = option_and_then pack_of (message_in item)

-- an item is an upload that names a pack
abbrev pub is_upload_of : PackKey → Item → Bool
is_upload_of pack (Carried k stamp (Upload gtin batch expiry national serials)) = has_pack gtin serials pack
is_upload_of pack _ = false

-- an item is a status of a pack
abbrev pub is_status_of : PackKey → Item → Bool
is_status_of pack (Carried k stamp (Status key to user at)) = is_same_pack key pack
is_status_of pack _ = false

-- the first upload that names a pack, and the statuses of a pack
abbrev pub first_upload : PackKey → List Placed → Option Placed
first_upload pack entries = find (λ placed. is_upload_of pack placed.entry.item) entries

abbrev pub statuses_of : PackKey → List Placed → List Placed
statuses_of pack entries = filter (λ placed. is_status_of pack placed.entry.item) entries

-- a pack that is held, once an entry follows that may be a status of it
abbrev pub pack_changed : (BatchKey → BatchStanding) → ℕ → ℕ → Item → PackKey → KnownPack → KnownPack
pack_changed standing place sender (Carried k stamp (Status key to user at)) pack held =
    pack_after_status held (standing (batch_key pack.gtin held.batch)) to sender user at place
pack_changed standing place sender _ pack held = held

-- a pack changed, where the upload that made the pack stands; what stands before that upload changes nothing
abbrev pub pack_step : FirstStops → PackKey → Placed → KnownPack → Placed → KnownPack
pack_step stops pack birth held placed =
    if stands_before birth placed
    then pack_changed (standing_at stops placed) placed.place placed.entry.sender placed.entry.item pack held
    else held

-- a pack by its first upload and its statuses alone
abbrev pub pack_grown : FirstStops → PackKey → Option Placed → List Placed → Option KnownPack
pack_grown stops pack None statuses = None
pack_grown stops pack (Some birth) statuses =
    option_map (λ held. fold (pack_step stops pack birth) held statuses) (pack_made_by birth.entry.item)
