-- What holds of every state that a system comes to.
use Rattle.std.specs.Prelude.{◌≡◌, ◌<◌, ◌+◌, ℕ, List, length, take, Some, true, slice_get}
use Rattle.mv_machine.specs.Words.{Entry, HubState, IsLawfulParty, IsPrefix, IsSquare, SiteState, is_open, items_from, items_on, new_site, routed_count, routed_from}
use Rattle.mv_hub.specs.declared.entry.Entry.TheVariants.{Routed, Closed}
use Rattle.mv_machine.specs.State.{State, opened_site, site_of}

-- An entry fits behind others, in a system of so many parties: it names parties alone, a routed message has the number that follows
-- those of its sender, and only an open link is closed.
abbrev pub Fits : ℕ → List Entry → Entry → Type 0
Fits count before (Routed from k message) = (from < count) × (k ≡ routed_count before from + 1)
Fits count before (Closed from to) = (from < count) × (to < count) × (is_open before from to ≡ true)

-- A record is lawful, of so many parties, where each entry fits behind those that stand before it: its messages are numbered and its
-- links closed at most once, and it names parties alone.
pub record IsLawfulRecord (count : ℕ) (entries : List Entry) : Type 0 where
  pub fits : (place : ℕ) (entry : Entry) → slice_get entries place ≡ Some entry → Fits count (take place entries) entry

-- A party is lawful beside a hub: the answers among its submissions are those that its log calls for; what was routed from it is a prefix
-- of what it submitted; and what it applied from each sender is a prefix of what the record puts on their link, in order and each once.
pub record IsLawfulAt (hub : HubState) (party : ℕ) (site : SiteState) : Type 0 where
  pub answers : IsLawfulParty (length hub.parties) site.submissions site.log
  pub routed : IsPrefix (routed_from hub.entries party) site.submissions
  pub applied : (from : ℕ) → from < length hub.parties → IsPrefix (items_from site.log from) (items_on hub from party)

-- the state is lawful: its record is, and each party is
pub record IsLawful (st : State) : Type 0 where
  pub of_record : IsLawfulRecord (length st.hub.parties) st.hub.entries
  pub of_party : (party : ℕ) → party < length st.hub.parties → IsLawfulAt st.hub party (site_of st party)

-- the links have the window that the limits say, and there is a part for each party, whose number, count and limit are those that the
-- system opened with, and a list for each link
pub record IsWellFormed (st : State) : Type 0 where
  pub window : st.hub.window ≡ st.limits.window
  pub sites_each : length st.sites ≡ length st.hub.parties
  pub sites : (party : ℕ) → party < length st.hub.parties
      → opened_site (site_of st party) ≡ new_site party (length st.hub.parties) st.limits.submissions
  pub sent_each : IsSquare (length st.hub.parties) st.hub.sent
  pub wires_each : IsSquare (length st.hub.parties) st.wires
