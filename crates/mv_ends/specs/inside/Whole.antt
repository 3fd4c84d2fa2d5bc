-- All ends of one opening, and what they are as the lists of the list machine.
use Rattle.std.specs.Prelude.{◌≡◌, ℕ, ◌<◌, List, [], length, map, slice_index_or}
use Rattle.std.specs.List.{range_with_len}
use Rattle.mv_ends.specs.Words.{Bounds, Frame, Global, Message, Vec, new_site, sent, IsLawful, IsWellFormed}
use Rattle.mv_ends.specs.declared.hub_end.HubEnd.{HubEnd}
use Rattle.mv_ends.specs.declared.repo_end.RepoEnd.{RepoEnd}
use Rattle.mv_ends.specs.HubEnd.{HubSeat}
use Rattle.mv_ends.specs.RepoEnd.{repo_seat}
use Rattle.mv_ends.specs.Rings.{Outlet, ring_put}
use Rattle.mv_ends.specs.inside.Rings.{AreEmpty, Inlet, each_row, ring_taken, taken_by}
use Rattle.mv_ends.specs.Whole.{AreEnds, IsSeatOf, KeepsSubmissions, sites_of, state_of}

-- what stays of a hub's end with these parties and ends of rings
abbrev pub opened_seat : List (List (List ℕ)) → Bounds → List (Inlet Message) → List (Vec (Outlet Frame) Global) → HubSeat
opened_seat parties limits uplinks rows = record { parties = parties; limits = limits; uplinks = map ring_taken uplinks; wires = each_row ring_put rows }

-- The ends of so many of these parties, by the limits of the system, where nothing has happened: the hub's of their uplinks, the hub's of the
-- links to them, and their own.
pub record AreOpened (parties : List (List (List ℕ))) (limits : Bounds) (opened : ℕ) (uplinks : List (Inlet Message))
    (rows : List (Vec (Outlet Frame) Global)) (repos : List RepoEnd) : Type 0 where
  pub uplinks_each : length uplinks ≡ opened
  pub rows_each : length rows ≡ opened
  pub repos_each : length repos ≡ opened
  pub untaken : AreEmpty (map taken_by uplinks)
  pub unused : (to : ℕ) → AreEmpty (slice_index_or (each_row sent rows) to [])
  pub wide : (to : ℕ) → to < opened → length (slice_index_or (each_row sent rows) to []) ≡ length parties
  pub sites : sites_of repos ≡ map (λ party. new_site party (length parties) limits.submissions) (range_with_len 0 opened)
  pub seats : (party : ℕ) (absent : RepoEnd) → party < opened
      → IsSeatOf (opened_seat parties limits uplinks rows) party (repo_seat (slice_index_or repos party absent))

-- what an outcome keeps
pub record IsOutcome (end : HubEnd) (repos : List RepoEnd) : Type 0 where
  pub ends : AreEnds end repos
  pub well_formed : IsWellFormed (state_of end repos)
  pub lawful : IsLawful (state_of end repos)
  pub few : KeepsSubmissions (state_of end repos)
