-- The ends of one opening stay such over one call of one end.
use Rattle.std.proofs.Common.{◌≡◌, ◌∙◌, ◌<◌, ℕ, suc, List, ◌∷◌, ◌++◌, length, take, drop, slice_index_or, set, refl, sym, subst, arith}
use Rattle.std.specs.List.{insert, remove}
use Rattle.std.proofs.lemmas.List.{length-take-le, take_at, drop_at, set_split}
use Rattle.mv_ends.specs.declared.hub_end.HubEnd.{HubEnd}
use Rattle.mv_ends.specs.declared.repo_end.RepoEnd.{RepoEnd}
use Rattle.mv_ends.specs.HubEnd.{SameHubEnd}
use Rattle.mv_ends.specs.RepoEnd.{SameRepoEnd}
use Rattle.mv_ends.specs.Whole.{AreEnds}
use Rattle.mv_ends.proofs.CallerLemmas.{ends_kept, same_but_one}

-- the hub's end was called
pub stay_with_hub : (old new : HubEnd) (repos : List RepoEnd) → AreEnds old repos → SameHubEnd old new → AreEnds new repos
stay_with_hub old new repos ends same = ends_kept old new repos repos same refl ends

-- what was taken out of a list, and put back as another, is set in its place
put_back : {X : Type 0} (list : List X) (k : ℕ) (new : X) → k < length list → insert (remove list k) k new ≡ set list k new
put_back list k new below =
    let long = length-take-le k list (omega (arith, below)) in
    (λ i. take_at (take k list) (drop (suc k) list) k long i ++ new ∷ drop_at (take k list) (drop (suc k) list) k long i) ∙ sym (set_split list k new below)

-- the end of a repository was taken out, called, and put back
pub stay_with_repo : (hub : HubEnd) (repos : List RepoEnd) (k : ℕ) (old new : RepoEnd) → AreEnds hub repos → k < length repos → old ≡ slice_index_or repos k old → SameRepoEnd old new
    → AreEnds hub (insert (remove repos k) k new)
stay_with_repo hub repos k old new ends below is same =
    subst (AreEnds hub) (sym (put_back repos k new below)) (ends_kept hub hub repos (set repos k new) refl (same_but_one repos k old new below is same) ends)
