-- What the sending end of a link is seen as.
use Rattle.std.specs.Prelude.{◌≡◌, ◌==◌, ◌||◌, ℕ, ◌+◌, ◌-◌, ◌≤◌, nat_lt, nat_le, List, [], ◌∷◌, ◌++◌, length, Option, Some, None, if◌then◌else◌}
use Rattle.mv_link.specs.Words.{Frame, Gone, Item, LinkFault, NotSent, Nothing}
use Rattle.circular_buffer.specs.Buffer.{keep_last}
use Rattle.mv_link.specs.declared.limits.TheConstants.{WINDOW_LEAST, WINDOW_LIMIT, NUMBER_LIMIT}
use Rattle.mv_link.specs.Frames.{IsFrameOf}

-- the sending end of a link
pub record Sending : Type 0 where
  pub window : ℕ  -- how many items are kept at most
  pub total : ℕ  -- how many items were pushed
  pub sent : ℕ  -- how many of them were relayed
  pub held : List Item  -- the last items that were pushed, as many as the window keeps

-- a sending end that nothing was pushed on
abbrev pub new_sending : ℕ → Sending
new_sending window = record { window = window; total = 0; sent = 0; held = [] }

-- one more item was pushed
abbrev pub with_item : Sending → Item → Sending
with_item sending item = record sending { total = sending.total + 1; held = keep_last sending.window (sending.held ++ item ∷ []) }

-- one more item was relayed
abbrev pub with_relayed : Sending → Sending
with_relayed sending = record sending { sent = sending.sent + 1 }

-- why there is no next frame of a link on which so many items were pushed and so many of them relayed, memory aside: all were
abbrev pub relay_fault : ℕ → ℕ → Option LinkFault
relay_fault total sent = if sent == total then Some Nothing else None

-- why the frame of a number is not given again, memory aside, the first reason that holds: it was not relayed, or as many items as
-- the window holds were pushed behind it
abbrev pub again_fault : ℕ → ℕ → ℕ → ℕ → Option LinkFault
again_fault window total sent number =
    if (number == 0) || nat_lt sent number then Some NotSent
    else (if nat_le number (total - window) then Some Gone
    else None)

-- so many more items fit: what is not yet relayed is never pushed out, and numbers have 32 bits
abbrev pub HasRoom : Sending → ℕ → Type 0
HasRoom sending count = ((sending.total - sending.sent) + count ≤ sending.window) × (sending.total + count ≤ NUMBER_LIMIT)

-- how many items a link may keep
abbrev pub IsWindow : ℕ → Type 0
IsWindow window = (WINDOW_LEAST ≤ window) × (window ≤ WINDOW_LIMIT)

-- a list of all that was pushed ends with what is held
pub record EndsWithHeld (sending : Sending) (list : List Item) : Type 0 where
  pub front : List Item
  pub whole : list ≡ front ++ sending.held
  pub count : length list ≡ sending.total

-- a frame of every list that ends with what is held
abbrev pub IsFrameOfAll : Sending → Frame → Type 0
IsFrameOfAll sending frame = (list : List Item) → EndsWithHeld sending list → IsFrameOf list frame
