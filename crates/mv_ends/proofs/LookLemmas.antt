-- What is seen of the ends beside one another.
use Rattle.mv_ends.proofs.Words.{◌≡◌, ◌<◌, ℕ, List, length, get_or, sym, ap, subst, All, IsPrefix, Item, Frame, IsFrameOf, LogEntry, accepted, accepted_front, items_from, All-front, HubEnd, RepoEnd, HubSeat, SiteState, hub_seat, repo_seat, IsSeatOf, AreEnds}

-- what was applied is a front of each list whose frames were put, where what was taken is a front of what was put
pub applied_front : (log : List LogEntry) (from : ℕ) (items : List Item) (taken put : List Frame) → accepted taken ≡ items_from log from
    → IsPrefix taken put → All (IsFrameOf items) put → IsPrefix (items_from log from) items
applied_front log from items taken put seen front valid =
    let found = accepted_front items taken 0 (All-front (IsFrameOf items) taken front.0 (subst (λ l. All (IsFrameOf items) l) (sym front.1) valid)) in
    subst (λ l. IsPrefix l items) seen (found.0, sym found.1)

-- one of the repositories' ends is that of its party
pub seat_of : (hub : HubEnd) (repos : List RepoEnd) (party : ℕ) (repo : RepoEnd) → AreEnds hub repos → party < length repos → repo ≡ get_or repos party repo
    → IsSeatOf (hub_seat hub) party (repo_seat repo)
seat_of hub repos party repo ends below here = subst (λ it. IsSeatOf (hub_seat hub) party (repo_seat it)) (sym here) (ends.seats party repo below)

-- that its seat is that of a party says of how many parties it knows
pub count_seated : (hub : HubSeat) (party : ℕ) (repo : RepoEnd) → IsSeatOf hub party (repo_seat repo) → repo.site.parties ≡ length hub.parties
count_seated hub party repo seat = ap (λ (site : SiteState). site.parties) seat.site

-- and how many messages it may submit
pub limit_seated : (hub : HubSeat) (party : ℕ) (repo : RepoEnd) → IsSeatOf hub party (repo_seat repo) → repo.site.limit ≡ hub.limits.submissions
limit_seated hub party repo seat = ap (λ (site : SiteState). site.limit) seat.site
