-- What a party keeps beside its lists. No public contract cites it.
use Rattle.std.specs.Prelude.{◌≡◌, ◌<◌, ◌≤◌, ℕ, List, length, slice_index_or}
use Rattle.mv_party.specs.Words.{Message, RepositoryState, SUBMISSIONS_LIMIT}
use Rattle.mv_party.specs.Site.{SiteState, count_from, IsLawfulParty}

-- the party of these parts, one of so many
abbrev pub site_of : ℕ → List Message → RepositoryState → ℕ → SiteState
site_of limit submissions repository parties =
    record { party = repository.party; parties = parties; limit = limit; submissions = submissions; log = repository.log }

-- the party is lawful, within its limit, and these are the counts of what it accepted from each sender
pub record IsSite (site : SiteState) (accepted : List ℕ) : Type 0 where
  pub lawful : IsLawfulParty site.parties site.submissions site.log
  pub few : length site.submissions ≤ site.limit
  pub limit : site.limit ≤ SUBMISSIONS_LIMIT
  pub counts : (sender : ℕ) → sender < site.parties → slice_index_or accepted sender 0 ≡ count_from site.log sender
