-- What the ends of a run are before and behind the turns of their workers.
use Rattle.std.specs.Prelude.{◌≡◌, ◌↔◌, ℕ, Bool, IsTrue, List, [], map}
use Rattle.std.specs.List.{AllZip}
use Rattle.std.specs.declared.thread.PromisedHandle.{PromisedHandle}
use Rattle.mv_message.specs.declared.message.Message.{Message}
use Rattle.mv_ends.specs.declared.repo_end.RepoEnd.{RepoEnd}
use Rattle.mv_ends.specs.Laws.{AreSameRepos}
use Rattle.mv_ends.specs.Whole.{AreEnds}
use Rattle.mv_workers.specs.declared.crew.Crew.{Crew}
use Rattle.mv_workers.specs.declared.crew.CrewEnds.{CrewEnds}
use Rattle.mv_workers.specs.declared.crew.DeskPromise.{DeskPromise}
use Rattle.mv_workers.specs.declared.desk.Desk.{Desk}
use Rattle.mv_workers.specs.declared.plan.Plan.{Plan}
use Rattle.mv_workers.specs.Plans.{IsBegun}
use Rattle.mv_workers.specs.Work.{lists_of}
use Rattle.mv_workers.specs.inside.Desks.{IsLaterHub, IsUnused, own_of, work_at}

-- the handle of a repository's worker
abbrev pub Handle : Type 0
Handle = PromisedHandle (Desk × Bool) DeskPromise

-- the end that the worker of a handle got
abbrev pub end_of : Handle → RepoEnd
end_of handle = handle.promise.0.value.end

-- what its party is to submit in all
abbrev pub work_of : Handle → List Message
work_of handle = work_at handle.promise.0.value

-- the ends are those of a plan's parties, the hub's record is empty, and what each party is to submit is its list
pub record IsCrewOf (plan : Plan) (crew : Crew) : Type 0 where
  pub ends : AreEnds crew.ends.0 crew.ends.1.items
  pub parties : crew.ends.0.hub.parties ≡ plan.parties
  pub limits : crew.ends.0.limits ≡ plan.limits
  pub no_entries : crew.ends.0.hub.entries ≡ []
  pub work : lists_of crew.lists.items ≡ plan.work

-- The worker of a handle has so many turns, and nothing was submitted at its end.
pub record HasTurns (turns : ℕ) (handle : Handle) : Type 0 where
  pub turns_are : handle.promise.1 ≡ turns
  pub unused : IsUnused (end_of handle)

-- the list of each party is begun at its end, by so many turns, and it is told whether all of each list was submitted
abbrev pub AreBegun : ℕ → List (List Message) → List RepoEnd → Bool → Type 0
AreBegun turns work repos all = AllZip (IsBegun turns) (map own_of repos) work × (IsTrue all ↔ (map own_of repos ≡ work))

-- the ends are those of a crew, behind so many turns of its workers
pub record IsBack (crew : Crew) (turns : ℕ) (back : CrewEnds) : Type 0 where
  pub hub_is : IsLaterHub crew.ends.0 back.hub
  pub repos : AreSameRepos crew.ends.1.items back.repos.items
  pub begun : AreBegun turns (lists_of crew.lists.items) back.repos.items back.all
