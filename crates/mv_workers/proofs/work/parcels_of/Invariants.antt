use Rattle.mv_workers.proofs.Words.{◌≡◌, ◌+◌, ◌≤◌, ◌++◌, vec_len, vec_capacity, into_iter_items, into_iter_len}
use Rattle.mv_workers.proofs.work.parcels_of.Given as goal

-- the parcels so far are the first messages, and there is room for the others
abbrev pub invariant-loop-message : goal.invariant-loop-message
invariant-loop-message l =
    let rest = l.message-iterator in
    (l.parcels.items ++ into_iter_items rest ≡ l.fn.list.items) × (vec_len l.parcels + into_iter_len rest ≤ vec_capacity l.parcels)
