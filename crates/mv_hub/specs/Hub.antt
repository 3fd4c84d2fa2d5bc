-- What the hub is seen as. Neither links nor tables are part of it: they follow from the record.
use Rattle.std.specs.Prelude.{ℕ, List, [], ◌∷◌, ◌++◌, ◌+◌, ◌-◌, length, Bool, ◌||◌, ◌&&◌, not, nat_lt, replicate, find, option_map, Option, Some, None, if◌then◌else◌}
use Rattle.mv_hub.specs.Words.{AlreadyClosed, Closed, Entry, HubFault, Item, Message, NUMBER_LIMIT, RouteFault, Routed, StrangerParty as Stranger, again_fault, cell, put, range_with_len, relay_fault as link_relay_fault}
use Rattle.mv_hub.specs.declared.fault.RouteFault.TheVariants.{StrangerParty, Busy}
use Rattle.mv_hub.specs.Record.{routed_count, is_open}
use Rattle.mv_hub.specs.Fault.{of_link}
use Rattle.mv_hub.specs.Links.{gained, link_items}

-- the hub, as calls see it
pub record HubState : Type 0 where
  pub parties : List (List (List ℕ))  -- the markets that each party serves, party 0 first
  pub window : ℕ  -- how many items each link keeps
  pub entries : List Entry  -- the record, the oldest entry first
  pub sent : List (List ℕ)  -- how many items of each link were relayed, by sender and receiver

-- a hub where nothing has happened
abbrev pub new_hub : List (List (List ℕ)) → ℕ → HubState
new_hub parties window = record {
  parties = parties;
  window = window;
  entries = [];
  sent = replicate (length parties) (replicate (length parties) 0);
}

-- how many items of a link were relayed
abbrev pub sent_of : HubState → ℕ → ℕ → ℕ
sent_of hub from to = cell hub.sent from to 0

-- all that was put on a link
abbrev pub items_on : HubState → ℕ → ℕ → List Item
items_on hub from to = link_items hub.parties hub.entries from to

-- the entry by which the next message of a party is routed
abbrev pub next_entry : HubState → ℕ → Message → Entry
next_entry hub from message = Routed from (routed_count hub.entries from + 1) message

-- what the routing of a message would put on a link
abbrev pub next_items : HubState → ℕ → Message → ℕ → List Item
next_items hub from message to = gained hub.parties hub.entries (next_entry hub from message) from to

-- a link has no room for what the routing of a message would put on it: items not yet relayed are never more than the
-- window, and their numbers have 32 bits
unfoldable pub is_busy : HubState → ℕ → Message → ℕ → Bool
is_busy hub from message to =
    nat_lt hub.window (length (items_on hub from to) - sent_of hub from to + length (next_items hub from message to))
    || nat_lt NUMBER_LIMIT (length (items_on hub from to) + length (next_items hub from message to))

-- the least party whose link has no room for the routing of a message
unfoldable pub busy_party : HubState → ℕ → Message → Option ℕ
busy_party hub from message = find (is_busy hub from message) (range_with_len 0 (length hub.parties))

-- why a message cannot be routed now, memory aside, the first reason that holds
unfoldable pub route_fault : HubState → ℕ → Message → Option RouteFault
route_fault hub from message =
    if nat_lt from (length hub.parties) then option_map Busy (busy_party hub from message) else Some StrangerParty

-- two parties of the hub
abbrev pub are_parties : HubState → ℕ → ℕ → Bool
are_parties hub from to = nat_lt from (length hub.parties) && nat_lt to (length hub.parties)

-- why a link gives no frame now, memory aside, the first reason that holds: that of its sending end comes second
abbrev pub relay_fault : HubState → ℕ → ℕ → Option HubFault
relay_fault hub from to =
    if not (are_parties hub from to) then Some Stranger
    else option_map of_link (link_relay_fault (length (items_on hub from to)) (sent_of hub from to))

-- why the frame of a number is not given again, memory aside, the first reason that holds
abbrev pub repeat_fault : HubState → ℕ → ℕ → ℕ → Option HubFault
repeat_fault hub from to number =
    if not (are_parties hub from to) then Some Stranger
    else option_map of_link (again_fault hub.window (length (items_on hub from to)) (sent_of hub from to) number)

-- why a link cannot be closed, memory aside, the first reason that holds
abbrev pub close_fault : HubState → ℕ → ℕ → Option HubFault
close_fault hub from to =
    if not (are_parties hub from to) then Some Stranger
    else (if not (is_open hub.entries from to) then Some AlreadyClosed
    else None)

-- the hub once the next message of a party is routed
abbrev pub with_routed : HubState → ℕ → Message → HubState
with_routed hub from message = record hub { entries = hub.entries ++ next_entry hub from message ∷ [] }

-- the hub once the next item of a link is relayed
abbrev pub with_relayed : HubState → ℕ → ℕ → HubState
with_relayed hub from to = record hub { sent = put hub.sent from to (sent_of hub from to + 1) }

-- the hub once a link is closed
abbrev pub with_closed : HubState → ℕ → ℕ → HubState
with_closed hub from to = record hub { entries = hub.entries ++ Closed from to ∷ [] }
