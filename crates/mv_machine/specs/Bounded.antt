-- What a state holds at most, by its limits.
use Rattle.std.specs.Prelude.{◌<◌, ◌≤◌, ◌-◌, ℕ, List, length, All}
use Rattle.mv_machine.specs.Words.{Item, items_on, sent_of}
use Rattle.mv_machine.specs.Limits.{Bounds}
use Rattle.mv_machine.specs.State.{State, submissions_of, waiting_of, wire_of}

-- A link has no more under way than its wire takes, nor more waiting to be relayed than its window. What is under way are frames that were
-- relayed, of items of the link.
pub record IsLinkWithin (limits : Bounds) (items : List Item) (sent : ℕ) (wire : List ℕ) : Type 0 where
  pub under_way : length wire ≤ limits.wire
  pub known : All (λ number. (1 ≤ number) × (number ≤ sent)) wire
  pub relayed : sent ≤ length items
  pub unsent : length items - sent ≤ limits.window

-- no party submitted more than it may, nor waits for more than its uplink takes, and each link is within its limits
pub record KeepsLimits (st : State) : Type 0 where
  pub submitted : (party : ℕ) → party < length st.hub.parties → length (submissions_of st party) ≤ st.limits.submissions
  pub waiting : (party : ℕ) → party < length st.hub.parties → length (waiting_of st party) ≤ st.limits.uplink
  pub links : (from to : ℕ) → from < length st.hub.parties → to < length st.hub.parties
      → IsLinkWithin st.limits (items_on st.hub from to) (sent_of st.hub from to) (wire_of st from to)
