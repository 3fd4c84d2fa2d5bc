use Rattle.mv_workers.proofs.Words.{items_from, link_items, log_of, ℕ, ◌<◌, ◌≡◌}
use Rattle.mv_workers.proofs.complete.has_applied.Given as goal

abbrev pub invariant-loop-from : goal.invariant-loop-from
invariant-loop-from l = (from : ℕ) → from < l.from → items_from (log_of l.outcome l.party) from ≡ link_items l.outcome.hub.parties l.outcome.hub.entries from l.party
