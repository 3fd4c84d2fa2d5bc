-- Rings, by the end that is taken from, and the tables of all wires.
use Rattle.std.specs.Prelude.{◌≡◌, ◌<◌, ◌-◌, ◌++◌, ℕ, List, [], length, map, slice_index_or, option_to_list, is_some, take}
use Rattle.mv_ends.specs.Words.{All, Frame, Global, Vec, consumer_capacity, known_free, known_items, received, sent}
pub use Rattle.mv_ends.specs.declared.inlet.Inlet.{Inlet}
use Rattle.mv_ends.specs.Rings.{Inflow, Outlet, Ring, WireTable, ring_put}

module _ {T : Type 0} where
  -- the ring that an end is of, as it shows it
  abbrev pub ring_taken : Inlet T → Ring
  ring_taken inlet =
      let end = inlet.ring.end in
      record { words = end.words; slots = end.slots; names = end.names; heap = end.heap; size = consumer_capacity inlet.ring }

  -- what was taken by an end: what left the ring, but for what is in hand
  abbrev pub taken_by : Inlet T → List T
  taken_by end = take (length (received end.ring) - length (option_to_list end.hand)) (received end.ring)

  -- what is known to wait at an end: what is in hand, and what is on the ring
  abbrev pub waits_at : Inlet T → List T
  waits_at end = option_to_list end.hand ++ known_items end.ring

  -- what such ends show of the rings to one party
  abbrev pub inflow_of : List (Inlet T) → Inflow T
  inflow_of ends = record {
    rings = map ring_taken ends;
    taken = map taken_by ends;
    known = map waits_at ends;
    in_hand = map (λ (end : Inlet T). is_some end.hand) ends;
  }

-- what all ends show of something, row by row
abbrev pub each_row : {A : Type 0} → (Outlet Frame → A) → List (Vec (Outlet Frame) Global) → List (List A)
each_row f rows = map (λ (row : Vec (Outlet Frame) Global). map f row.items) rows

-- the rings of all wires, by the ends that frames are put on
abbrev pub table_of : List (Vec (Outlet Frame) Global) → WireTable
table_of rows = record { rings = each_row ring_put rows; put = each_row sent rows; free = each_row known_free rows }

-- something is known to wait on the ring from a party
abbrev pub HasFront : {T : Type 0} → Inflow T → ℕ → Type 0
HasFront inlets from = 0 < length (slice_index_or inlets.known from [])

-- nothing was put on any ring, or taken from it
abbrev pub AreEmpty : {A : Type 0} → List (List A) → Type 0
AreEmpty lists = (from : ℕ) → slice_index_or lists from [] ≡ []

-- the two ends of the links to one party from so many, which hold so many frames each and were not used yet
pub record AreLinks (count room : ℕ) (row : List (Outlet Frame)) (inlets : Inflow Frame) : Type 0 where
  pub wide : length row ≡ count
  pub each : length inlets.taken ≡ count
  pub rings : inlets.rings ≡ map ring_put row
  pub size : All (λ (ring : Ring). ring.size ≡ room) inlets.rings
  pub unused : AreEmpty (map sent row)
  pub untaken : AreEmpty inlets.taken
