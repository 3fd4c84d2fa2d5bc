-- The ends of one opening stay such: what the proofs of other crates cite of the ends.
use Rattle.mv_ends.proofs.Words.{◌≡◌, ◌∙◌, ◌<◌, ℕ, List, length, map, get_or, set, refl, sym, ap, subst, arith, get_or-map, length-map, HubSeat, RepoEnd, hub_seat, repo_seat, SameRepoEnd, IsSeatOf}
use Rattle.mv_ends.specs.Laws.{AreSameRepos, EndsStayEnds, IsSameByOne}
use Rattle.mv_ends.proofs.RingLemmas.{shows_same}

-- one more of the ends was called
pub same_by_one : IsSameByOne
same_by_one first repos place was now before in_range is same = shows_same repos place was now in_range is repo_seat (map repo_seat first) before same

-- just one of them was called
pub same_but_one : (repos : List RepoEnd) (place : ℕ) (was now : RepoEnd) → place < length repos → was ≡ get_or repos place was → SameRepoEnd was now
    → AreSameRepos repos (set repos place now)
same_but_one repos place was now in_range is same = same_by_one repos repos place was now refl in_range is same

-- the ends stay those of one opening
pub ends_kept : EndsStayEnds
ends_kept old new repos new_repos same same_repos ends =
    let count : length new_repos ≡ length repos = sym (length-map new_repos repo_seat) ∙ ap length same_repos ∙ length-map repos repo_seat in
    record {
      each = count ∙ ends.each ∙ ap (λ (seat : HubSeat). length seat.parties) (sym same);
      seats = λ party absent below.
          let there : party < length repos = omega (arith, below, count) in
          let seat : repo_seat (get_or repos party absent) ≡ repo_seat (get_or new_repos party absent) =
          sym (get_or-map repo_seat repos party absent (repo_seat absent) there) ∙ ap (λ seats. get_or seats party (repo_seat absent)) (sym same_repos)
          ∙ get_or-map repo_seat new_repos party absent (repo_seat absent) below in
          subst (λ hub. IsSeatOf hub party (repo_seat (get_or new_repos party absent))) (sym same)
          (subst (IsSeatOf (hub_seat old) party) seat (ends.seats party absent there));
    }
