-- What the ends of one opening keep.
use Rattle.std.specs.Prelude.{◌≡◌, ℕ, ◌<◌, List, length, map, set, slice_index_or}
use Rattle.mv_ends.specs.declared.hub_end.HubEnd.{HubEnd}
use Rattle.mv_ends.specs.declared.repo_end.RepoEnd.{RepoEnd}
use Rattle.mv_ends.specs.HubEnd.{SameHubEnd}
use Rattle.mv_ends.specs.RepoEnd.{SameRepoEnd, repo_seat}
use Rattle.mv_ends.specs.Whole.{AreEnds}

-- each end is the same at two moments
abbrev pub AreSameRepos : List RepoEnd → List RepoEnd → Type 0
AreSameRepos old new = map repo_seat new ≡ map repo_seat old

-- each is the same as itself, in this sense
abbrev pub IsSameItself : {A : Type 0} → (A → A → Type 0) → Type 0
IsSameItself {A = A} IsSame = (it : A) → IsSame it it

-- where each end is the same as at first, and then one is called, each is the same as at first
abbrev pub IsSameByOne : Type 0
IsSameByOne = (first repos : List RepoEnd) (place : ℕ) (was now : RepoEnd) → AreSameRepos first repos → place < length repos
    → was ≡ slice_index_or repos place was → SameRepoEnd was now → AreSameRepos first (set repos place now)

-- ends of one opening are those of one opening later too
abbrev pub EndsStayEnds : Type 0
EndsStayEnds = (old new : HubEnd) (old_repos new_repos : List RepoEnd) → SameHubEnd old new → AreSameRepos old_repos new_repos
    → AreEnds old old_repos → AreEnds new new_repos
