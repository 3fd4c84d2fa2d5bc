use Rattle.mv_repository.proofs.Words.{◌≡◌, ℕ, length, get_or, nat_lt, IsRefreshed, nothing_kept, stops_in}
use Rattle.mv_repository.proofs.shelf.Shelf.refresh.Given as goal

-- those so far are worked out
abbrev pub invariant-loop-number : goal.invariant-loop-number
invariant-loop-number l = record { count : length l.tracks.items ≡ length l.initial.tracks.items; tracks : (other : ℕ) → IsRefreshed l.newest.log.now (stops_in l.newest.log.now l.newest.stops.now) l.gtin (nat_lt other l.number) (get_or l.initial.tracks.items other nothing_kept) (get_or l.tracks.items other nothing_kept) }
