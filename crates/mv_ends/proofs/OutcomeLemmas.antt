-- What an outcome shows of its ends, and that the ends of one opening make a lawful one.
use Rattle.std.proofs.lemmas.Option.{gets}
use Rattle.mv_ends.proofs.Words.{◌≡◌, ◌<◌, ℕ, zero, suc, List, [], ◌∷◌, length, get_or, slice_index_or, set, ◌+◌, inl, inr, sym, ◌∙◌, refl, arith, ltb-true, IsTrue, nat_tests, length-map, cases_lt, IsSquare, square-replicate, new_site, State, is_party, site_of, ◌≤◌, opened_site, opening, IsLawful, IsLawfulAt, IsWellFormed, HeadlineHolds, headline, opening-sound, HubEnd, HubSeat, RepoEnd, SameHubEnd, IsUnchanged, hub_seat, repo_seat, SameRepoEnd, IsRepoUnchanged, IsSeatOf, AreEnds, sites_of, state_of, IsOutcome}
use Rattle.mv_ends.proofs.CallerLemmas.{ends_kept, same_but_one}
use Rattle.mv_ends.proofs.RingLemmas.{shown_at, shows_same}

-- what one end shows of its party is what the state has of it
pub shown : (hub : HubEnd) (repos : List RepoEnd) (st : State) (party : ℕ) (repo : RepoEnd) → state_of hub repos ≡ st → AreEnds hub repos → IsTrue (is_party st party)
    → repo ≡ slice_index_or repos party repo → repo.site ≡ site_of st party
shown hub repos st party repo view ends is_party here = grind (arith, nat_tests, gets, length-map, ltb-true, shown_at)

-- the headline, from the opening on
pub headline_of : (st : State) → IsWellFormed st → IsLawful st → HeadlineHolds (opening st.hub.parties st.limits) st
headline_of st well_formed lawful =
    headline (opening st.hub.parties st.limits) st (opening-sound st.hub.parties st.limits).lawful well_formed lawful (record { parties = refl; limits = refl; entries = (st.hub.entries, refl) })

-- ends of one opening that show a state, of which so many parties were found lawful
pub record IsGathering (st : State) (hub : HubEnd) (repos : List RepoEnd) (found : ℕ) : Type 0 where
  pub ends : AreEnds hub repos
  pub shows : state_of hub repos ≡ st
  pub each : (party : ℕ) → party < found → IsLawfulAt st.hub party (site_of st party) × (length (site_of st party).submissions ≤ st.limits.submissions)

-- one more party was found lawful
pub gathering_more : (st : State) (hub next_hub : HubEnd) (repos : List RepoEnd) (k : ℕ) (old new : RepoEnd) → IsGathering st hub repos k → k < length repos
    → old ≡ slice_index_or repos k old → SameHubEnd hub next_hub → IsUnchanged hub next_hub → SameRepoEnd old new → IsRepoUnchanged old new → IsLawfulAt hub.hub k old.site
    → length old.site.submissions ≤ hub.limits.submissions
    → IsGathering st next_hub (set repos k new) (k + 1)
gathering_more st hub next_hub repos k old new was below here same_hub unchanged_hub same unchanged lawful few =
    let site : site_of (state_of hub repos) k ≡ old.site = shown_at repos k old old below here (λ (repo : RepoEnd). repo.site) (sites_of repos) refl (new_site 0 0 0) in
    record {
      ends = ends_kept hub next_hub repos (set repos k new) same_hub (same_but_one repos k old new below here same) was.ends;
      shows = grind (arith, nat_tests, shows_same);
      each = λ party lt. elim (cases_lt party k) [
        | inl before ↦ was.each party before
        | inr after ↦
            let at : party ≡ k = omega arith in
            rw (at, sym was.shows, site) (lawful, few)
      ];
    }

-- the party of an end is that of its seat
site_seated : (hub : HubSeat) (party : ℕ) (repos : List RepoEnd) (place : ℕ) → place < length repos → ((absent : RepoEnd) → IsSeatOf hub party (repo_seat (get_or repos place absent)))
    → opened_site (get_or (sites_of repos) place (new_site 0 0 0)) ≡ new_site party (length hub.parties) hub.limits.submissions
site_seated hub party [] place below seat = absurd (omega (arith, below))
site_seated hub party (repo ∷ repos) zero below seat = (seat repo).site
site_seated hub party (repo ∷ repos) (suc place) below seat = site_seated hub party repos place (omega (arith, below)) seat

-- ends of one opening make an outcome, once all parties were found lawful
pub outcome_of : (st : State) (hub : HubEnd) (repos : List RepoEnd) (found : ℕ) → IsGathering st hub repos found → found ≡ length hub.hub.parties
    → IsSquare (length st.hub.parties) st.hub.sent → IsOutcome hub repos
outcome_of st hub repos found was all square = record {
  ends = was.ends;
  well_formed = record {
    window = hub.window;
    sites_each = length-map repos (λ (repo : RepoEnd). repo.site) ∙ was.ends.each;
    sites = λ party below.
        let there : party < length repos = omega (arith, below, was.ends.each) in
        site_seated (hub_seat hub) party repos party there (λ absent. was.ends.seats party absent there);
    sent_each = grind (arith, was.shows);
    wires_each = square-replicate (length hub.hub.parties) [];
  };
  lawful = record { of_record = hub.lawful; of_party = λ party below. grind (arith, was.each party) };
  few = λ party below. grind (arith, was.each party);
}
