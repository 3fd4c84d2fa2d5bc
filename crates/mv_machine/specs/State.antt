-- The state of the list machine: the hub, the parties, and what is under way on the links between them, as plain lists.
use Rattle.std.specs.Prelude.{◌==◌, ℕ, List, [], length, drop, map, Bool, slice_index_or, nat_le, nat_lt, replicate, slice_set}
use Rattle.std.specs.List.{range_with_len}
use Rattle.mv_machine.specs.Words.{HubState, LogEntry, Message, SiteState, cell, count_from, new_hub, new_site, put, routed_count}
use Rattle.mv_machine.specs.Limits.{Bounds}

pub record State : Type 0 where
  pub limits : Bounds
  pub hub : HubState  -- the parties, the record, and how much of each link was relayed
  pub sites : List SiteState  -- what each party submitted and applied, party 0 first
  pub wires : List (List (List ℕ))  -- the numbers of the frames under way on each link, the front first, by sender and receiver

-- a party of the system
abbrev pub is_party : State → ℕ → Bool
is_party st party = nat_lt party (length st.hub.parties)

-- a party's part of the state
abbrev pub site_of : State → ℕ → SiteState
site_of st party = slice_index_or st.sites party (new_site 0 0 0)

-- a party as it was when its system opened
abbrev pub opened_site : SiteState → SiteState
opened_site site = new_site site.party site.parties site.limit

-- what a party submitted
abbrev pub submissions_of : State → ℕ → List Message
submissions_of st party = (site_of st party).submissions

-- what a party submitted and the hub has not routed yet: its uplink
abbrev pub waiting_of : State → ℕ → List Message
waiting_of st party = drop (routed_count st.hub.entries party) (submissions_of st party)

-- as many messages of a party are under way to the hub as its uplink takes
abbrev pub is_uplink_full : State → ℕ → Bool
is_uplink_full st party = length (waiting_of st party) == st.limits.uplink

-- the numbers of the frames under way on a link
abbrev pub wire_of : State → ℕ → ℕ → List ℕ
wire_of st from to = cell st.wires from to []

-- as many frames of a link are under way as its wire takes
abbrev pub is_wire_full : State → ℕ → ℕ → Bool
is_wire_full st from to = nat_le st.limits.wire (length (wire_of st from to))

-- what a repository applied
abbrev pub log_of : State → ℕ → List LogEntry
log_of st party = (site_of st party).log

-- how many items of a sender a repository applied
abbrev pub applied_count : State → ℕ → ℕ → ℕ
applied_count st from to = count_from (log_of st to) from

-- the state with another part of a party
abbrev pub with_site : State → ℕ → SiteState → State
with_site st party site = record st { sites = slice_set st.sites party site }

-- the state with other frames under way on a link
abbrev pub with_wire : State → ℕ → ℕ → List ℕ → State
with_wire st from to numbers = record st { wires = put st.wires from to numbers }

-- the state where a system opens: nothing has happened
abbrev pub opening : List (List (List ℕ)) → Bounds → State
opening parties limits = record {
  limits = limits;
  hub = new_hub parties limits.window;
  sites = map (λ party. new_site party (length parties) limits.submissions) (range_with_len 0 (length parties));
  wires = replicate (length parties) (replicate (length parties) []);
}
