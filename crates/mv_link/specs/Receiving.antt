-- The receiving end of a link: how a frame stands to what was accepted, and what is accepted with it.
use Rattle.std.specs.Prelude.{◌≡◌, ℕ, ◌+◌, List, [], ◌∷◌, ◌++◌, length, nat_le, nat_lt, if◌then◌else◌}
use Rattle.mv_link.specs.Words.{Frame, Item}
use Rattle.mv_link.specs.declared.incoming.Look.{Look}
use Rattle.mv_link.specs.Frames.{accepted}
use Rattle.mv_link.specs.declared.incoming.Look.TheVariants as look

-- how the number of a frame stands to how many frames were accepted
abbrev pub look_at : ℕ → ℕ → Look
look_at count number =
    if nat_le number count then look.Old
    else (if nat_lt (count + 1) number then look.Gap (count + 1)
    else look.Next)

-- what is accepted once a frame came that stands so and bears this item: the item too, where it is the next, else what was
abbrev pub accepted_with : List Item → Item → Look → List Item
accepted_with items item look.Next = items ++ item ∷ []
accepted_with items item stands = items

-- Of whatever frames just so many were accepted: what is accepted of them and of this one is what it was, or has its item too, as it
-- stands.
abbrev pub IsAcceptedAs : ℕ → Frame → Look → Type 0
IsAcceptedAs count frame stands = (frames : List Frame) → length (accepted frames) ≡ count
    → accepted (frames ++ frame ∷ []) ≡ accepted_with (accepted frames) frame.item stands

-- Of whatever frames just so many were accepted: of them and one that is the next, so many more.
abbrev pub AcceptsNext : ℕ → ℕ → Type 0
AcceptsNext count more = (frames : List Frame) (frame : Frame) → length (accepted frames) ≡ count → look_at count frame.number ≡ look.Next
    → length (accepted (frames ++ frame ∷ [])) ≡ more
