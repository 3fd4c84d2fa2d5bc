use Rattle.mv_workers.proofs.Words.{◌≡◌, ◌+◌, ◌≤◌, ◌++◌, vec_len, vec_capacity, into_iter_items, into_iter_len, lists_of}
use Rattle.mv_workers.proofs.work.Work.into_parcels.Given as goal

-- the lists so far are the first, and there is room for the others
abbrev pub invariant-loop-list : goal.invariant-loop-list
invariant-loop-list l =
    let rest = l.list-iterator in
    (lists_of l.lists.items ++ lists_of (into_iter_items rest) ≡ l.fn.self) × (vec_len l.lists + into_iter_len rest ≤ vec_capacity l.lists)
