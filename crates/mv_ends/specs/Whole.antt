-- All ends of one opening, and what they are as the lists of the list machine.
use Rattle.std.specs.Prelude.{◌≡◌, ℕ, ◌<◌, ◌≤◌, List, length, map, slice_index_or}
use Rattle.mv_ends.specs.Words.{All, SiteState, State, new_site, opening, submissions_of}
use Rattle.mv_ends.specs.declared.hub_end.HubEnd.{HubEnd}
use Rattle.mv_ends.specs.declared.repo_end.RepoEnd.{RepoEnd}
use Rattle.mv_ends.specs.Rings.{Ring}
use Rattle.mv_ends.specs.HubEnd.{HubSeat, hub_seat}
use Rattle.mv_ends.specs.RepoEnd.{RepoSeat, repo_seat}

-- What stays of a repository's end is that of a party at this end of the hub: it holds the other ends of the hub's rings to and from the
-- party, one to it from each, which are of the sizes that the limits give.
pub record IsSeatOf (hub : HubSeat) (party : ℕ) (repo : RepoSeat) : Type 0 where
  pub site : repo.site ≡ new_site party (length hub.parties) hub.limits.submissions
  pub uplink : (absent : Ring) → repo.uplink ≡ slice_index_or hub.uplinks party absent
  pub links : (absent : List Ring) → repo.inlets ≡ slice_index_or hub.wires party absent
  pub each_link : length repo.inlets ≡ length hub.parties
  pub uplink_size : repo.uplink.size ≡ hub.limits.uplink
  pub wire_sizes : All (λ (ring : Ring). ring.size ≡ hub.limits.wire) repo.inlets

-- the ends are those of one opening, the repositories in order of party
pub record AreEnds (end : HubEnd) (repos : List RepoEnd) : Type 0 where
  pub each : length repos ≡ length end.hub.parties
  pub seats : (party : ℕ) (absent : RepoEnd) → party < length repos
      → IsSeatOf (hub_seat end) party (repo_seat (slice_index_or repos party absent))

-- the parties, in order
abbrev pub sites_of : List RepoEnd → List SiteState
sites_of repos = map (λ (repo : RepoEnd). repo.site) repos

-- the lists that all ends have together. Nothing is under way: what was left on the rings is not taken any more.
abbrev pub state_of : HubEnd → List RepoEnd → State
state_of end repos = record (opening end.hub.parties end.limits) { hub = end.hub; sites = sites_of repos }

-- no party submitted more messages than it may
abbrev pub KeepsSubmissions : State → Type 0
KeepsSubmissions outcome = (party : ℕ) → party < length outcome.hub.parties → length (submissions_of outcome party) ≤ outcome.limits.submissions
