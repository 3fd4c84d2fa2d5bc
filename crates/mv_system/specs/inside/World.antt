-- What the system is seen as, the state of the list machine, and what it keeps beside that.
use Rattle.std.specs.Prelude.{◌≡◌, All, ◌<◌, ◌≤◌, ℕ, List, [], length, map, Result, Ok, Err}
use Rattle.mv_link.specs.Frames.{IsFrameOf}
use Rattle.mv_link.specs.declared.limits.TheConstants.{PARTIES_LIMIT}
use Rattle.mv_link.specs.declared.item.Item.{Item}
use Rattle.mv_link.specs.declared.item.Frame.{Frame}
use Rattle.mv_pairs.specs.Pairs.{cell, IsSquare}
use Rattle.mv_hub.specs.Hub.{HubState, items_on}
use Rattle.mv_party.specs.Site.{SiteState}
use Rattle.mv_machine.specs.Bounded.{KeepsLimits}
use Rattle.mv_machine.specs.Limits.{Bounds, AreBounds}
use Rattle.mv_machine.specs.State.{State}
use Rattle.mv_machine.specs.Lawful.{IsLawful, IsWellFormed}
use Rattle.mv_machine.specs.declared.reply.Refusal.{Refusal}
use Rattle.mv_machine.specs.declared.reply.Reply.{Reply}
use Rattle.mv_machine.specs.declared.reply.Reply.TheVariants.{Refused}
use Rattle.circular_buffer.specs.Buffer.{Buffer, buffer}

-- the frames under way on a link, the front first, in a ring of the wire's size
abbrev pub WireState : Type 0
WireState = Buffer Frame

-- a wire where nothing is under way
abbrev pub new_wire : ℕ → WireState
new_wire size = buffer [] size

-- the numbers of frames, in order
abbrev pub numbers_of : List Frame → List ℕ
numbers_of frames = map (λ frame. frame.number) frames

-- the numbers of the frames on each wire
abbrev pub numbers_on : List (List WireState) → List (List (List ℕ))
numbers_on wires = map (map (λ wire. numbers_of wire.items)) wires

-- the wire of a link, by sender and receiver
abbrev pub wire_at : List (List WireState) → ℕ → ℕ → WireState
wire_at wires from to = cell wires from to (new_wire 0)

-- the state of the list machine that the parts make
abbrev pub state_of : Bounds → HubState → List SiteState → List (List WireState) → State
state_of limits hub sites wires = record { limits = limits; hub = hub; sites = sites; wires = numbers_on wires }

-- a wire of this size holds frames of the items of its link alone
pub record IsWireOf (size : ℕ) (items : List Item) (wire : WireState) : Type 0 where
  pub size_is : wire.capacity ≡ size
  pub frames : All (IsFrameOf items) wire.items

-- there is such a wire for each link of a hub
pub record AreWiresOf (size : ℕ) (hub : HubState) (wires : List (List WireState)) : Type 0 where
  pub square : IsSquare (length hub.parties) wires
  pub each : (from to : ℕ) → from < length hub.parties → to < length hub.parties
      → IsWireOf size (items_on hub from to) (wire_at wires from to)

-- what the system keeps
pub record IsSystem (st : State) (wires : List (List WireState)) : Type 0 where
  pub well_formed : IsWellFormed st
  pub lawful : IsLawful st
  pub within : KeepsLimits st
  pub parties_most : length st.hub.parties ≤ PARTIES_LIMIT
  pub bounds : AreBounds st.limits
  pub are_wires : AreWiresOf st.limits.wire st.hub wires

-- the reply that tells what a step did, or why it was refused
abbrev pub reply_of : Result Reply Refusal → Reply
reply_of (Ok reply) = reply
reply_of (Err refusal) = Refused refusal
