-- What a worker has, and what its turns leave of it.
use Rattle.std.specs.Prelude.{◌≡◌, ◌++◌, ◌+◌, ℕ, ◌<◌, ◌≤◌, List, [], length, slice_index_or, true}
use Rattle.mv_message.specs.declared.message.Message.{Message}
use Rattle.mv_hub.specs.Record.{is_open}
use Rattle.mv_ends.specs.declared.hub_end.HubEnd.{HubEnd}
use Rattle.mv_ends.specs.declared.repo_end.RepoEnd.{RepoEnd}
use Rattle.mv_ends.specs.HubEnd.{SameHubEnd}
use Rattle.mv_ends.specs.RepoEnd.{SameRepoEnd}
use Rattle.mv_workers.specs.declared.desk.Desk.{Desk}
use Rattle.mv_workers.specs.Work.{own_among}

-- what was submitted at an end of the party's own
abbrev pub own_of : RepoEnd → List Message
own_of end = own_among end.site.submissions

-- nothing was submitted at an end
pub record IsUnused (end : RepoEnd) : Type 0 where
  pub none : end.site.submissions ≡ []

-- nothing was submitted at any of the ends
abbrev pub AllUnused : List RepoEnd → Type 0
AllUnused repos = (party : ℕ) (absent : RepoEnd) → party < length repos → IsUnused (slice_index_or repos party absent)

-- what its party is to submit in all: what it submitted of its own, and what is left
abbrev pub work_at : Desk → List Message
work_at desk = own_of desk.end ++ desk.list.items

-- the same desk, so many turns later at most: in each one message is tried
abbrev pub IsFurther : ℕ → Desk → Desk → Type 0
IsFurther turns old new =
    SameRepoEnd old.end new.end × (work_at new ≡ work_at old) × (length (own_of new.end) ≤ length (own_of old.end) + turns)

-- the same end of the hub, later: each link that was open still is
pub record IsLaterHub (old new : HubEnd) : Type 0 where
  pub same : SameHubEnd old new
  pub still_open : (from to : ℕ) → is_open old.hub.entries from to ≡ true → is_open new.hub.entries from to ≡ true
