-- Rings, by what their two ends show of them.
use Rattle.std.specs.Prelude.{◌≡◌, ◌==◌, ◌<◌, ℕ, List, [], ◌∷◌, ◌++◌, Bool, false, length, slice_index_or, slice_set}
use Rattle.mv_ends.specs.Words.{AnyItems, Frame, Global, IsPrefix, Ptr, cell, known_free, producer_capacity, put}
use Rattle.rtrb.specs.declared.producer.Producer.{Producer}

-- the end of a ring that is put on
abbrev pub Outlet : Type 0 → Type 0
Outlet T = Producer T Global AnyItems

-- A ring, as both of its ends name it, and how much it holds.
pub record Ring : Type 0 where
  pub words : Ptr
  pub slots : Ptr
  pub names : ℕ × (ℕ × ℕ)
  pub heap : Global
  pub size : ℕ

-- the ring that is put on by an end, and the one that is taken from
abbrev pub ring_put : {T : Type 0} → Outlet T → Ring
ring_put end = record { words = end.end.words; slots = end.end.slots; names = end.end.names; heap = end.end.heap; size = producer_capacity end }

-- no room is known to be on the ring
abbrev pub is_full : {T : Type 0} → Outlet T → Bool
is_full end = known_free end == 0

-- What is seen of ends of rings that are taken from, by the party that puts there: what was taken of each ring, what waits there as far
-- as it is known, and whether the first of that has left the ring and is in hand.
pub record Inflow (T : Type 0) : Type 0 where
  pub rings : List Ring
  pub taken : List (List T)
  pub known : List (List T)
  pub in_hand : List Bool

-- What is seen of the hub's ends of the links, by the party to which and then the one from which: what was put on each ring, and how much
-- room it is known to have.
pub record WireTable : Type 0 where
  pub rings : List (List Ring)
  pub put : List (List (List Frame))
  pub free : List (List ℕ)

-- the lists with one more item at the end of one
abbrev pub with_item : {A : Type 0} → List (List A) → ℕ → A → List (List A)
with_item lists place item = slice_set lists place (slice_index_or lists place [] ++ item ∷ [])

module _ {T : Type 0} where
  -- nothing is known to wait on the ring from a party
  abbrev pub IsEmptyFrom : Inflow T → ℕ → Type 0
  IsEmptyFrom inlets from = (absent : List T) → length (slice_index_or inlets.known from absent) ≡ 0

  -- what is in hand is what was, but for the ring from one party
  abbrev pub KeepsOthers : ℕ → Inflow T → Inflow T → Type 0
  KeepsOthers from old new = (other : ℕ) → (other ≡ from → ⊥) → slice_index_or new.in_hand other false ≡ slice_index_or old.in_hand other false

  -- this is at the front of the ring from a party
  abbrev pub IsFront : Inflow T → ℕ → T → Type 0
  IsFront inlets from front = IsPrefix (front ∷ []) (slice_index_or inlets.known from [])

-- the ring of a link is known to have room
abbrev pub HasRoomOn : WireTable → ℕ → ℕ → Type 0
HasRoomOn wires from to = 0 < cell wires.free to from 0

-- no room is known to be on the ring of a link
abbrev pub IsFullOn : WireTable → ℕ → ℕ → Type 0
IsFullOn wires from to = (absent : ℕ) → cell wires.free to from absent ≡ 0

-- the wires with one more frame put on the ring of a link
abbrev pub with_frame : List (List (List Frame)) → ℕ → ℕ → Frame → List (List (List Frame))
with_frame wires from to frame = put wires to from (cell wires to from [] ++ frame ∷ [])
