use Rattle.mv_workers.proofs.Words.{◌≡◌, ◌+◌, ◌≤◌, ◌++◌, All, map, vec_len, vec_capacity, into_iter_items, into_iter_len, lists_of, HasTurns, end_of, work_of}
use Rattle.mv_workers.proofs.crew.Crew.start.Given as goal

-- the handles so far are of the first ends and lists; there are as many lists left as ends, and room for their handles
abbrev pub invariant-loop-end : goal.invariant-loop-end
invariant-loop-end g l =
    let rest = l.end-iterator in
    (goal.iterator-loop-end g).can_next rest
    × (goal.iterator-loop-end g).is_finite rest
    × (map end_of l.handles.items ++ into_iter_items rest ≡ l.fn.ends.1.items)
    × (map work_of l.handles.items ++ lists_of (into_iter_items l.lists) ≡ lists_of l.fn.lists.items)
    × All (HasTurns l.fn.shift.course.now.turns) l.handles.items
    × (into_iter_len rest ≡ into_iter_len l.lists)
    × (vec_len l.handles + into_iter_len rest ≤ vec_capacity l.handles)
