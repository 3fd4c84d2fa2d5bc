-- Lemmas on links.
use Rattle.mv_link.proofs.Words.{◌≡◌, ◌≤◌, ℕ, ◌+◌, ◌-◌, List, [], ◌∷◌, ◌++◌, length, take, drop, ap, arith, append_assoc, append-nil, length-append, cond, drop-cons, Some, slice_get, All, ◌==◌, All-tail, nat_tests}
use Rattle.std.proofs.lemmas.List.{take-append-drop}
use Rattle.std.proofs.lemmas.Grind.{common_steps}
use Rattle.std.proofs.lemmas.Option.{gets, slice_get_within}
use Rattle.circular_buffer.proofs.Places.{slice_get-append_left}
use Rattle.mv_link.specs.declared.item.Item.{Item}
use Rattle.mv_link.specs.declared.item.Frame.{Frame}
use Rattle.mv_link.specs.Frames.{IsFrameOf, accepted_after, accepted, OneMoreFrame}
use Rattle.mv_link.specs.Receiving.{look_at, AcceptsNext, IsAcceptedAs}
use Rattle.mv_link.specs.Sending.{Sending, with_item, EndsWithHeld}
use Rattle.mv_link.specs.declared.incoming.Look.TheVariants as look

-- the list with one more item ends with what is held then
pub pushed : (sending : Sending) (list : List Item) (item : Item) → EndsWithHeld sending list
    → EndsWithHeld (with_item sending item) (list ++ item ∷ [])
pushed sending list item e =
    let more = sending.held ++ item ∷ [] in
    let cut = length more - sending.window in
    record { front = e.front ++ take cut more; whole = grind (arith, e.whole, append_assoc, take-append-drop cut more); count = rw length-append (omega (arith, e.count)) }

-- a frame of a list is one of a longer list
pub of_longer : (list more : List Item) (frame : Frame) → IsFrameOf list frame → IsFrameOf (list ++ more) frame
of_longer list more frame of = grind (arith, slice_get-append_left, slice_get_within)

-- the member at a place stands first in what is left from there on
member_first : (list : List Item) (place : ℕ) (item : Item) → slice_get list place ≡ Some item → drop place list ≡ item ∷ drop (place + 1) list
member_first list place item at = grind (arith, common_steps, gets, drop-cons list place item)

-- what is accepted from a place on stands in the list from there on
accepted_at : (list : List Item) (frames : List Frame) (count : ℕ) → All (IsFrameOf list) frames
    → drop count list ≡ accepted_after count frames ++ drop (count + length (accepted_after count frames)) list
accepted_at list [] count valid = ap (λ n. drop n list) (omega arith)
accepted_at list (frame ∷ frames) count valid =
    let here : IsFrameOf list frame = valid 0 frame (omega arith) in
    let others = All-tail (IsFrameOf list) frame frames valid in
    let next = accepted_at list frames (count + 1) others in
    grind (arith, nat_tests, here, member_first list count frame.item, next, accepted_at list frames count others)

-- so it is a front of the list from there on
pub accepted_front : (list : List Item) (frames : List Frame) (count : ℕ) → All (IsFrameOf list) frames → (rest : List Item) × (drop count list ≡ accepted_after count frames ++ rest)
accepted_front list frames count valid = (_, accepted_at list frames count valid)

-- one more frame, behind those that came after so many were accepted
pub accepted-push : (count : ℕ) (frames : List Frame) (frame : Frame)
    → accepted_after count (frames ++ frame ∷ []) ≡ accepted_after count frames ++ cond (frame.number == (count + length (accepted_after count frames) + 1)) (frame.item ∷ []) []
accepted-push count [] frame = ap (λ n. cond (frame.number == n) (frame.item ∷ []) []) (omega arith)
accepted-push count (first ∷ frames) frame = grind (arith, accepted-push (count + 1) frames frame, accepted-push count frames frame)

-- so it is accepted just where its number is the next
pub one_more : (frames : List Frame) (frame : Frame) → OneMoreFrame frames frame
one_more frames frame = grind (arith, accepted-push, append-nil)

-- and what is accepted is as it stands
pub old_kept : (count : ℕ) (frame : Frame) → frame.number ≤ count → IsAcceptedAs count frame look.Old
old_kept count frame old frames counted = (one_more frames frame).old (omega (arith, counted))

pub next_taken : (count : ℕ) (frame : Frame) → frame.number ≡ count + 1 → IsAcceptedAs count frame look.Next
next_taken count frame next frames counted = (one_more frames frame).next (omega (arith, counted))

pub gap_kept : (count : ℕ) (frame : Frame) → look.Gap (count + 1) ≡ look_at count frame.number → IsAcceptedAs count frame (look.Gap (count + 1))
gap_kept count frame gap frames counted = grind (arith, nat_tests, one_more frames frame)

-- a number that is the next
pub next-number : (count number : ℕ) → look_at count number ≡ look.Next → number ≡ count + 1
next-number count number next = grind (arith, nat_tests)

-- the next frame makes one more
pub accepts_next : (count more : ℕ) → more ≡ count + 1 → AcceptsNext count more
accepts_next count more is frames frame counted stands =
    grind (arith, one_more frames frame, length-append (accepted frames) (frame.item ∷ []))
