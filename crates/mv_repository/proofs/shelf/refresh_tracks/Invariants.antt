use Rattle.mv_repository.proofs.Words.{◌≡◌, ℕ, length, get_or, take, IsRefreshed, nothing_kept, stops_in, list_any, ◌==◌}
use Rattle.mv_repository.proofs.shelf.refresh_tracks.Given as goal

-- those so far are worked out
abbrev pub invariant-loop-number : goal.invariant-loop-number
invariant-loop-number l = record {
  count : length l.tracks.items ≡ length l.fn.tracks.items;
  tracks : (other : ℕ) → IsRefreshed l.newest.log.now (stops_in l.newest.log.now l.newest.stops.now) l.gtin (list_any (λ one. other == one) (take l.number-index l.numbers))
      (get_or l.fn.tracks.items other nothing_kept) (get_or l.tracks.items other nothing_kept);
}
