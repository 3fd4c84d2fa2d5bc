-- What a plan is beside what its run leaves.
use Rattle.mv_workers.proofs.Words.{AllUnused, AllZip-get_or, AreBegun, Bool, IsBack, IsBegun, KeepsSubmissions, IsCarried, IsComplete, IsCrewOf, IsFalse, IsLawful, IsSound, IsTrue, KeepsPlan, List, RepoEnd, State, [], ap, arith, ext_get_or, get_or, get_or-map, length, length-map, map, nat_tests, new_site, opening, own_among, own_of, refl, site_of, submissions_of, sym, ℕ, ◌&&◌, ◌<◌, ◌↔◌, ◌∙◌, ◌∷◌, ◌≡◌, HubEnd, AreEnds, sites_of, state_of}
use Rattle.mv_machine.specs.Limits.{Bounds}
use Rattle.mv_machine.proofs.CallerLemmas.{opening-site}
use Rattle.mv_workers.specs.declared.plan.Plan.{Plan}
use Rattle.mv_workers.specs.declared.crew.Crew.{Crew}
use Rattle.mv_workers.specs.declared.crew.CrewEnds.{CrewEnds}

-- ends where nothing has happened are those of these parties, by these limits, one for each
pub fresh_ends : (parties : List (List (List ℕ))) (limits : Bounds) (hub : HubEnd) (repos : List RepoEnd) → AreEnds hub repos → state_of hub repos ≡ opening parties limits
    → (hub.hub.parties ≡ parties) × (hub.limits ≡ limits) × (hub.hub.entries ≡ []) × (length repos ≡ length parties)
fresh_ends parties limits hub repos ends fresh = grind arith

-- nothing was submitted at them
pub fresh_unused : (parties : List (List (List ℕ))) (limits : Bounds) (hub : HubEnd) (repos : List RepoEnd) → AreEnds hub repos → state_of hub repos ≡ opening parties limits → AllUnused repos
fresh_unused parties limits hub repos ends fresh = λ party absent below.
    let site = get_or-map (λ (repo : RepoEnd). repo.site) repos party absent (new_site 0 0 0) below in
    grind (arith, fresh_ends, opening-site, site, ap (λ (it : State). site_of it party) fresh)

-- what a state has of a party's own is what was submitted at its end
own_at : (repos : List RepoEnd) (party : ℕ) → get_or (map own_of repos) party [] ≡ own_among (get_or (sites_of repos) party (new_site 0 0 0)).submissions
own_at [] party = refl
own_at (repo ∷ repos) party = grind (arith, nat_tests, own_at repos)

module _ (plan : Plan) (turns : ℕ) (crew : Crew) (back : CrewEnds) (of_plan : IsCrewOf plan crew) (is_back : IsBack crew turns back) (outcome : State)
    (is : outcome ≡ state_of back.hub back.repos.items) where
  parties_kept : outcome.hub.parties ≡ plan.parties
  parties_kept = grind arith

  own_each : length (map own_of back.repos.items) ≡ length outcome.hub.parties
  own_each = grind (arith, length-map)

  own_is : (party : ℕ) → get_or (map own_of back.repos.items) party [] ≡ own_among (submissions_of outcome party)
  own_is party = grind (arith, own_at)

  begun : AreBegun turns plan.work back.repos.items back.all
  begun = rw of_plan.work at is_back.begun

  -- the ends of a crew keep its plan
  keeps_plan : IsLawful outcome → KeepsSubmissions outcome → KeepsPlan plan turns outcome
  keeps_plan lawful few = record {
    lawful = lawful;
    parties = parties_kept;
    limits = grind arith;
    few = few;
    all_open = λ from to. grind arith;
    submitted = λ party below. rw (← own_is party) (AllZip-get_or (IsBegun turns) (map own_of back.repos.items) plan.work party [] [] begun.0 (omega (arith, below, own_each)));
  }

  module _ (sound : IsSound plan) (lawful : IsLawful outcome) (few : KeepsSubmissions outcome) (carried : Bool)
      (means : IsTrue carried ↔ ((party : ℕ) → party < length outcome.hub.parties → IsCarried outcome party)) where
    -- where each party submitted its list, all lists are what was submitted
    whole : IsComplete plan outcome → map own_of back.repos.items ≡ plan.work
    whole done = ext_get_or [] (map own_of back.repos.items) plan.work (own_each ∙ ap length parties_kept ∙ sym sound.each) (λ party below. own_is party ∙ (done party (omega (arith, below, own_each))).0)

    -- they have a complete outcome where all was submitted, and all that was submitted was carried
    complete_by : IsTrue (back.all && carried) ↔ IsComplete plan outcome
    complete_by = grind (arith, nat_tests, begun, own_is, whole)

    -- what is judged to be complete is what a run promises
    pub judged_ok : IsTrue (back.all && carried) → IsSound plan × KeepsPlan plan turns outcome × IsComplete plan outcome
    judged_ok told = (sound, keeps_plan lawful few, complete_by.0 told)

    -- and what is not leaves one of the faults
    pub judged_err : IsFalse (back.all && carried) → IsSound plan × KeepsPlan plan turns outcome × (IsComplete plan outcome → ⊥)
    judged_err told = grind (arith, nat_tests, complete_by, keeps_plan)
