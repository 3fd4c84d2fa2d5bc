-- What the ends keep of their rings, beside the hub and the party.
use Rattle.std.specs.Prelude.{◌≡◌, ℕ, ◌<◌, ◌≤◌, List, [], length, slice_index_or}
use Rattle.mv_ends.specs.Words.{All, Entry, Fits, Frame, HubState, IsFrameOf, IsLawfulRecord, LogEntry, Message, accepted, cell, items_from, items_on, routed_count, routed_from}
use Rattle.std.specs.Coded.{le_prop, Coded-set, coded_bool}
use Rattle.std.proofs.Math.Nat.{ℕ_set}
use Rattle.mv_hub.specs.declared.entry.Entry.TheVariants.{Routed, Closed}

-- what was taken from each uplink is what was routed from its party, in order
abbrev pub TookAll : ℕ → List Entry → List (List Message) → Type 0
TookAll count entries taken = (from : ℕ) → from < count → slice_index_or taken from [] ≡ routed_from entries from

-- on the ring of each link only frames of the link were put
abbrev pub AreOfLinks : HubState → List (List (List Frame)) → Type 0
AreOfLinks hub put = (from to : ℕ) → All (IsFrameOf (items_on hub from to)) (cell put to from [])

-- of the frames that were taken from each link to a party, just those were accepted that its log has from the sender
abbrev pub AreAccepted : ℕ → List LogEntry → List (List Frame) → Type 0
AreAccepted count log taken = (from : ℕ) → from < count → accepted (slice_index_or taken from []) ≡ items_from log from

-- no more messages of any party were routed than it may submit
abbrev pub AreWithin : ℕ → HubState → Type 0
AreWithin most hub = (from : ℕ) → from < length hub.parties → routed_count hub.entries from ≤ most

-- that a record is lawful has one proof at most
Fits-prop : (count : ℕ) (before : List Entry) (entry : Entry) → IsProp (Fits count before entry)
Fits-prop count before (Routed from k message) = hlevel (le_prop, ℕ_set)
Fits-prop count before (Closed from to) = hlevel (le_prop, Coded-set coded_bool)

pub IsLawfulRecord-prop : (count : ℕ) (entries : List Entry) → IsProp (IsLawfulRecord count entries)
IsLawfulRecord-prop count entries = hlevel Fits-prop
