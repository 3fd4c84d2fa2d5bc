-- Frames, the list that they are of, and what is accepted of them.
use Rattle.std.specs.Prelude.{◌≡◌, ℕ, ◌+◌, ◌-◌, ◌<◌, ◌≤◌, ◌==◌, List, [], ◌∷◌, ◌++◌, length, All, slice_get, Some, if◌then◌else◌}
use Rattle.mv_link.specs.Words.{Frame, Item}
use Rattle.mv_link.specs.declared.item.Item.TheVariants.{Receipt, Carried}

-- the number of the sender's message that an item is about, counted from one
abbrev pub number_of : Item → ℕ
number_of (Receipt k reach query) = k
number_of (Carried k stamp message) = k

-- a frame of a list: its item is the member of the list at its number, counted from one
abbrev pub IsFrameOf : List Item → Frame → Type 0
IsFrameOf list frame = (1 ≤ frame.number) × (slice_get list (frame.number - 1) ≡ Some frame.item)

-- the items that are accepted of frames that come in this order, after so many were accepted: each whose number is the next
abbrev pub accepted_after : ℕ → List Frame → List Item
accepted_after count [] = []
accepted_after count (frame ∷ frames) =
    if frame.number == (count + 1) then frame.item ∷ accepted_after (count + 1) frames else accepted_after count frames

-- the items that are accepted of frames that come in this order
abbrev pub accepted : List Frame → List Item
accepted frames = accepted_after 0 frames

-- frames of a list may be lost, repeated and come in any order: what is accepted of them is a prefix of the list
abbrev pub AcceptedIsPrefix : Type 0
AcceptedIsPrefix = (list : List Item) (frames : List Frame) → All (IsFrameOf list) frames
    → (rest : List Item) × (list ≡ accepted frames ++ rest)

-- One more frame comes: where its number is the next, its item is accepted behind those before; where it is old, or behind a gap,
-- what is accepted stays as it was.
pub record OneMoreFrame (frames : List Frame) (frame : Frame) : Type 0 where
  pub next : frame.number ≡ length (accepted frames) + 1 → accepted (frames ++ frame ∷ []) ≡ accepted frames ++ frame.item ∷ []
  pub old : frame.number ≤ length (accepted frames) → accepted (frames ++ frame ∷ []) ≡ accepted frames
  pub gap : length (accepted frames) + 1 < frame.number → accepted (frames ++ frame ∷ []) ≡ accepted frames

-- so it is, whatever frames came before
abbrev pub OneMoreFrameIsLookedAt : Type 0
OneMoreFrameIsLookedAt = (frames : List Frame) (frame : Frame) → OneMoreFrame frames frame
