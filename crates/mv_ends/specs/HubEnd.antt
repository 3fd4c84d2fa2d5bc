-- What a contract sees of the hub's end, and what its calls leave, by their replies.
use Rattle.std.specs.Prelude.{◌≡◌, ◌⊎◌, ℕ, ◌+◌, ◌<◌, List, length, Option, None, IsTrue}
use Rattle.mv_ends.specs.Words.{Bounds, Closed, Frame, IsFrameOf, Memory, Message, Party, Refusal, Refused, Relayed, Repeated, Reply, Routed, UplinkEmpty, WireFull, are_parties, close_fault, hub_refusal_of, items_on, relay_fault, repeat_fault, route_fault, route_refusal_of, routed_count, sent_of, with_closed, with_relayed, with_routed}
use Rattle.mv_ends.specs.Refusals.{IsRefusedBy}
use Rattle.mv_hub.specs.declared.fault.HubFault.{HubFault}
use Rattle.mv_hub.specs.Targets.{reach}
use Rattle.mv_ends.specs.declared.hub_end.HubEnd.{HubEnd}
use Rattle.mv_ends.specs.Rings.{Ring, IsEmptyFrom, IsFront, KeepsOthers, HasRoomOn, IsFullOn, with_item, with_frame}

-- What stays of the hub's end: its parties, its limits, and the rings that it has ends of.
pub record HubSeat : Type 0 where
  pub parties : List (List (List ℕ))
  pub limits : Bounds
  pub uplinks : List Ring
  pub wires : List (List Ring)

-- what stays of this end
abbrev pub hub_seat : HubEnd → HubSeat
hub_seat end = record { parties = end.hub.parties; limits = end.limits; uplinks = end.uplinks.rings; wires = end.wires.rings }

-- the same end of one opening, at two moments
abbrev pub SameHubEnd : HubEnd → HubEnd → Type 0
SameHubEnd old new = hub_seat new ≡ hub_seat old

-- nothing has changed: neither the hub nor what was taken or put, nor what is in hand
pub record IsUnchanged (old new : HubEnd) : Type 0 where
  pub hub : new.hub ≡ old.hub
  pub taken : new.uplinks.taken ≡ old.uplinks.taken
  pub put : new.wires.put ≡ old.wires.put
  pub in_hand : new.uplinks.in_hand ≡ old.uplinks.in_hand

-- nothing has changed, but that what is at the front of the uplink of a party may be in hand
pub record IsOpened (from : ℕ) (old new : HubEnd) : Type 0 where
  pub hub : new.hub ≡ old.hub
  pub taken : new.uplinks.taken ≡ old.uplinks.taken
  pub put : new.wires.put ≡ old.wires.put
  pub others : KeepsOthers from old.uplinks new.uplinks

-- The message was routed that was taken from the uplink, since the party may have more routed: the record gained just that entry, and the
-- reply says so.
pub record RoutesFront (from : ℕ) (old new : HubEnd) (reply : Reply) : Type 0 where
  pub below : routed_count old.hub.entries from < old.limits.submissions
  pub message : Message
  pub taken : new.uplinks.taken ≡ with_item old.uplinks.taken from message
  pub put : new.wires.put ≡ old.wires.put
  pub others : KeepsOthers from old.uplinks new.uplinks
  pub hub : new.hub ≡ with_routed old.hub from message
  pub free : route_fault old.hub from message ≡ None
  pub reply_is : reply ≡ Routed (routed_count old.hub.entries from + 1) (reach old.hub.parties old.hub.entries from message)

-- The message at the front of the uplink was looked at, since the party may have more routed, and it is not routed: for the fault of the
-- hub, or else for want of memory.
pub record SeesFront (from : ℕ) (old new : HubEnd) (refusal : Refusal) : Type 0 where
  pub below : routed_count old.hub.entries from < old.limits.submissions
  pub message : Message
  pub front : IsFront new.uplinks from message
  pub why : IsRefusedBy route_refusal_of (route_fault old.hub from message) refusal

-- What `route` leaves, by its reply: nothing waited on the uplink where the party may have more routed; a link that has no room has none
-- for the message at the front of the uplink, and want of memory stands in place of its routing alone, which may leave the message in hand.
abbrev pub Routes : ℕ → HubEnd → HubEnd → Reply → Type 0
Routes from old new (Refused Party) = IsUnchanged old new × (from < length old.hub.parties → ⊥)
Routes from old new (Refused UplinkEmpty) = IsUnchanged old new × (from < length old.hub.parties)
    × (routed_count old.hub.entries from < old.limits.submissions → IsEmptyFrom new.uplinks from)
Routes from old new (Refused Memory) = IsOpened from old new × SeesFront from old new Memory
Routes from old new (Refused refusal) = IsUnchanged old new × SeesFront from old new refusal
Routes from old new reply = RoutesFront from old new reply

-- a frame of a link, with this number, was put on its ring, and nothing else on any
pub record PutsOf (from to number : ℕ) (old new : HubEnd) : Type 0 where
  pub frame : Frame
  pub numbered : frame.number ≡ number
  pub member : IsFrameOf (items_on old.hub from to) frame
  pub put : new.wires.put ≡ with_frame old.wires.put from to frame
  pub taken : new.uplinks.taken ≡ old.uplinks.taken
  pub in_hand : new.uplinks.in_hand ≡ old.uplinks.in_hand

-- why no frame is put on the ring of a link of two parties: the ring was full; or it had room, and the hub refuses it, for this fault
-- if there is one, else for want of memory alone
abbrev pub IsPutRefused : HubEnd → HubEnd → ℕ → ℕ → Option HubFault → Refusal → Type 0
IsPutRefused old new from to fault refusal =
    ((refusal ≡ WireFull) × IsTrue (are_parties old.hub from to) × IsFullOn new.wires from to)
    ⊎ (IsRefusedBy hub_refusal_of fault refusal × (IsTrue (are_parties old.hub from to) → HasRoomOn new.wires from to))

-- what `relay` leaves, by its reply: the frame that is put is the next one
abbrev pub Relays : ℕ → ℕ → HubEnd → HubEnd → Reply → Type 0
Relays from to old new (Refused refusal) = IsUnchanged old new × IsPutRefused old new from to (relay_fault old.hub from to) refusal
Relays from to old new reply = PutsOf from to (sent_of old.hub from to + 1) old new × (new.hub ≡ with_relayed old.hub from to)
    × (reply ≡ Relayed (sent_of old.hub from to + 1)) × (relay_fault old.hub from to ≡ None)

-- what `repeat` leaves, by its reply: the frame that is put is the one that was asked for
abbrev pub Repeats : ℕ → ℕ → ℕ → HubEnd → HubEnd → Reply → Type 0
Repeats from to number old new (Refused refusal) = IsUnchanged old new × IsPutRefused old new from to (repeat_fault old.hub from to number) refusal
Repeats from to number old new reply =
    PutsOf from to number old new × (new.hub ≡ old.hub) × (reply ≡ Repeated number) × (repeat_fault old.hub from to number ≡ None)

-- what `close` leaves, by its reply
abbrev pub Closes : ℕ → ℕ → HubEnd → HubEnd → Reply → Type 0
Closes from to old new (Refused refusal) = IsUnchanged old new × IsRefusedBy hub_refusal_of (close_fault old.hub from to) refusal
Closes from to old new reply = (new.hub ≡ with_closed old.hub from to) × (new.uplinks.taken ≡ old.uplinks.taken)
    × (new.wires.put ≡ old.wires.put) × (new.uplinks.in_hand ≡ old.uplinks.in_hand) × (reply ≡ Closed) × (close_fault old.hub from to ≡ None)
