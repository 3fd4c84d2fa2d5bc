use Rattle.mv_workers.proofs.Words.{◌≡◌, ◌+◌, ◌≤◌, ◌++◌, All, List, length, map, vec_len, vec_capacity, into_iter_items, into_iter_len, AreSameRepos, AreBegun, HasTurns, Handle, end_of, work_of}
use Rattle.mv_workers.proofs.crew.Crew.join.Given as goal

-- the ends so far are those of the first handles, and there is room for the others
abbrev pub invariant-loop-handle : goal.invariant-loop-handle
invariant-loop-handle g l =
    let rest = l.handle-iterator in
    ((done : List Handle) × (done ++ into_iter_items rest ≡ l.fn.handles.items)
    × AreSameRepos (map end_of done) l.repos.items × AreBegun l.fn.shift.course.now.turns (map work_of done) l.repos.items l.all)
    × All (HasTurns l.fn.shift.course.now.turns) (into_iter_items rest)
    × (length (into_iter_items rest) ≡ into_iter_len rest)
    × (vec_len l.repos + into_iter_len rest ≤ vec_capacity l.repos)
