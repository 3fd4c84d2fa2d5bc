-- What a repository keeps beside its log: the tables of its products and packs, and what it knows of its own queries.
use Rattle.std.specs.Prelude.{◌≡◌, ◌<◌, ◌≤◌, ◌*◌, ◌&&◌, ◌||◌, ◌==◌, if◌then◌else◌}
use Rattle.mv_repository.specs.Words.{ℕ, Bool, false, true, nat_eq, not, length, filter, last_or, bytes_eq, List, Option, Some, None, option_or, lookup, Master, Answer, Item, PARTIES_LIMIT, PartySet, Receipt, Carried, LogEntry, option_and_then, option_map, option_map_or, has_party}
use Rattle.mv_repository.specs.declared.inquiries.Inquiries.{Inquiries}
use Rattle.mv_repository.specs.declared.inquiries.Inquiry.{Inquiry}
use Rattle.mv_repository.specs.declared.tables.Tables.{Tables}
use Rattle.mv_repository.specs.Order.{ordered}
use Rattle.mv_repository.specs.Repository.{uploaded_packs}
use Rattle.mv_repository.specs.inside.Shelf.{AreShelfOf, shelf_of}
use Rattle.mv_repository.specs.inside.Track.{AreStopsOf, place_of}
use Rattle.mv_repository.specs.Verdict.{asked_parties, has_answered, has_finding, found_active, found_explained}

-- an item is a master of a code
abbrev pub is_master : List ℕ → Item → Bool
is_master gtin (Carried k stamp (Master named product)) = bytes_eq named gtin
is_master gtin _ = false

-- the tables are those of a log of at most 2^32 entries, whose uploads name no more packs than 2^16 each
pub record AreTablesOf (log : List LogEntry) (tables : Tables) : Type 0 where
  -- for each code the place of its last master by stamp
  pub masters : (gtin : List ℕ) → lookup (bytes_eq gtin) tables.masters.entries ≡ option_map place_of (last_or None (filter (λ placed. is_master gtin placed.entry.item) (ordered log)))
  pub stops : AreStopsOf log tables.stops
  pub shelves : (gtin : List ℕ) → AreShelfOf log gtin (shelf_of gtin tables.shelves.entries)
  pub few : (length (uploaded_packs log) ≤ 65536 * length log) × (length log ≤ 4294967296)

-- the query of the party that an item from a sender tells of: it is the receipt of one, or an answer to one
abbrev pub query_of : ℕ → ℕ → Item → Option ℕ
query_of party sender (Receipt k reach query) = if query && (sender == party) then Some k else None
query_of party sender (Carried k stamp (Answer asker q key found)) = if asker == party then Some q else None
query_of party sender _ = None

-- a query once an item tells of it: the first receipt names the parties that were asked, and each answer what it found
abbrev pub inquiry_after : Item → Inquiry → Inquiry
inquiry_after (Receipt k reach query) inquiry = record inquiry { asked = option_or inquiry.asked (Some reach) }
inquiry_after (Carried k stamp (Answer asker q key found)) inquiry =
    record inquiry { active = inquiry.active || found_active found; explained = inquiry.explained || found_explained found }
inquiry_after _ inquiry = inquiry

-- a party has not answered a query once an item from a sender tells of it, where it is kept which had not
abbrev pub waits_after : ℕ → Item → PartySet → ℕ → Bool
waits_after sender (Carried k stamp (Answer asker q key found)) waiting other = has_party waiting other && not (other == sender)
waits_after sender _ waiting other = has_party waiting other

-- what is kept of a party's query is what a log says; of one that is not kept it says nothing
pub record IsInquiryOf (party : ℕ) (log : List LogEntry) (q : ℕ) (inquiry : Option Inquiry) : Type 0 where
  pub asked : option_and_then (λ known. known.asked) inquiry ≡ asked_parties party log q
  pub active : option_map_or (λ known. known.active) inquiry false ≡ has_finding found_active party log q
  pub explained : option_map_or (λ known. known.explained) inquiry false ≡ has_finding found_explained party log q
  pub waiting : (other : ℕ) → other < PARTIES_LIMIT → option_map_or (λ known. has_party known.waiting other) inquiry true ≡ not (has_answered party log q other)

-- so is what is kept of each query
pub record IsInquiriesOf (party : ℕ) (log : List LogEntry) (known : Inquiries) : Type 0 where
  pub each : (q : ℕ) → IsInquiryOf party log q (lookup (nat_eq q) known.inquiries.entries)
