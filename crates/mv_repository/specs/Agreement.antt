-- What of a log bears on one pack, and what decides the pack; and what two logs agree on that have the same of it.
use Rattle.std.specs.Prelude.{◌≡◌, ◌↔◌}
use Rattle.mv_repository.specs.Words.{ℕ, nat_eq, List, Bool, false, filter, Option, Some, None, bytes_eq, filter_map, Contains, option_map, option_map_or, PackKey, Message, Upload, Status, Withdraw, Item, Receipt, Carried, LogEntry, IsDistinct, Recall, is_same_pack, is_same_batch, batch_key, map, option_and_then, BatchStanding}
use Rattle.mv_repository.specs.Order.{Placed, ordered}
use Rattle.mv_repository.specs.Pack.{KnownChange, KnownPack, has_pack, known_pack, pack_state, is_recalled, is_withdrawn}
use Rattle.mv_repository.specs.Verdict.{local_verdict}
use Rattle.mv_repository.specs.Bearing.{first_stops, first_upload, is_before, statuses_of}

-- a message that was carried, with its sender and its stamp
pub record Sent : Type 0 where
  pub sender : ℕ
  pub stamp : ℕ
  pub message : Message

-- the message that an item from a sender carries
abbrev pub sent_in : ℕ → Item → Option Sent
sent_in sender (Carried k stamp message) = Some (record { sender = sender; stamp = stamp; message = message })
sent_in sender (Receipt k reach query) = None

-- an entry as it was sent
abbrev pub sent_of : Placed → Option Sent
sent_of placed = sent_in placed.entry.sender placed.entry.item

-- a message bears on a pack whose batch has this number: it is an upload that names the pack, a status of the pack, a
-- recall of its batch or a withdrawal of its product
abbrev pub bears_on : PackKey → Option (List ℕ) → Message → Bool
bears_on pack batch (Upload gtin named expiry national serials) = has_pack gtin serials pack
bears_on pack batch (Status key to user at) = is_same_pack key pack
bears_on pack batch (Recall key at) = option_map_or (λ number. is_same_batch key (batch_key pack.gtin number)) batch false
bears_on pack batch (Withdraw gtin at) = bytes_eq gtin pack.gtin
bears_on pack batch _ = false

-- the number of the batch that a log gives a pack, where it holds the pack
abbrev pub batch_in : PackKey → List LogEntry → Option (List ℕ)
batch_in pack log = option_map (λ held. held.batch) (pack_state pack log)

-- what a log has about a pack, in the order of stamps: of the messages that it carries, those that bear on the pack
abbrev pub about : PackKey → List LogEntry → List Sent
about pack log = filter (λ sent. bears_on pack (batch_in pack log) sent.message) (filter_map sent_of (ordered log))

-- a pack whose change names no place in a log: the place is put as 0
abbrev pub unplaced : KnownPack → KnownPack
unplaced pack = record pack { change = option_map (λ (change : KnownChange). record change { entry = 0 }) pack.change }

-- a log recalls this batch of a product, where there is one
abbrev pub is_batch_recalled : List ℕ → Option (List ℕ) → List LogEntry → Bool
is_batch_recalled gtin batch log = option_map_or (λ number. is_recalled (batch_key gtin number) log) batch false

-- two logs agree on a pack: on its state, the recall of its batch, the withdrawal of its product, and the verdict
pub record AgreeOn (pack : PackKey) (one other : List LogEntry) : Type 0 where
  pub state : option_map unplaced (known_pack pack (ordered one)) ≡ option_map unplaced (known_pack pack (ordered other))
  pub recall : is_batch_recalled pack.gtin (batch_in pack one) one ≡ is_batch_recalled pack.gtin (batch_in pack other) other
  pub withdrawal : is_withdrawn pack.gtin one ≡ is_withdrawn pack.gtin other
  pub verdict : local_verdict pack one ≡ local_verdict pack other

-- no stamp stands at two places of a log
abbrev pub HasDistinctStamps : List LogEntry → Type 0
HasDistinctStamps log =
    IsDistinct nat_eq (filter_map (λ entry. option_map (λ (sent : Sent). sent.stamp) (sent_in entry.sender entry.item)) log)

-- two logs have the same messages about a pack, in whatever order these came
abbrev pub HaveSameAbout : PackKey → List LogEntry → List LogEntry → Type 0
HaveSameAbout pack one other = (sent : Sent) → Contains (about pack one) sent ↔ Contains (about pack other) sent

-- two logs have the same entries, in whatever order and however often
abbrev pub HaveSameEntries : List LogEntry → List LogEntry → Type 0
HaveSameEntries one other = (entry : LogEntry) → Contains one entry ↔ Contains other entry

-- the entries of a log that decide a pack, each with its place
pub record PackHistory : Type 0 where
  pub upload : Option Placed  -- the first upload that names the pack
  pub statuses : List Placed  -- its statuses, in the order of stamps
  pub recall : Option Placed  -- the first recall of its batch
  pub withdrawal : Option Placed  -- the first withdrawal of its product

-- what decides a pack in a log
abbrev pub history_of : PackKey → List LogEntry → PackHistory
history_of pack log = record {
  upload = first_upload pack (ordered log);
  statuses = statuses_of pack (ordered log);
  recall = option_and_then (λ number. (first_stops (ordered log)).recall (batch_key pack.gtin number)) (batch_in pack log);
  withdrawal = (first_stops (ordered log)).withdrawal pack.gtin;
}

-- a status as it was sent, and what stands before it: the upload, and the recall and the withdrawal
pub record SentStatus : Type 0 where
  pub sent : Option Sent
  pub is_uploaded : Bool
  pub batch : BatchStanding

-- a status of a history as it was sent
abbrev pub sent_status : PackHistory → Placed → SentStatus
sent_status history placed = record {
  sent = sent_of placed;
  is_uploaded = is_before history.upload placed;
  batch = record { recalled = is_before history.recall placed; withdrawn = is_before history.withdrawal placed };
}

-- a history as it was sent: no place in a log is left
pub record SentHistory : Type 0 where
  pub upload : Option Sent
  pub statuses : List SentStatus
  pub recall : Option Sent
  pub withdrawal : Option Sent

abbrev pub as_sent : PackHistory → SentHistory
as_sent history = record {
  upload = option_and_then sent_of history.upload;
  statuses = map (sent_status history) history.statuses;
  recall = option_and_then sent_of history.recall;
  withdrawal = option_and_then sent_of history.withdrawal;
}

-- two logs have the same history of a pack: the same was sent that decides it
abbrev pub HaveSameHistory : PackKey → List LogEntry → List LogEntry → Type 0
HaveSameHistory pack one other = as_sent (history_of pack one) ≡ as_sent (history_of pack other)
