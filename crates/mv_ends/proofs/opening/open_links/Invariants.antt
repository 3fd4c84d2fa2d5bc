use Rattle.mv_ends.proofs.Words.{vec_items, inflow_of, AreLinks}
use Rattle.mv_ends.proofs.opening.open_links.Given as goal

-- the rings so far are those of so many links
abbrev pub invariant-loop-from : goal.invariant-loop-from
invariant-loop-from l = AreLinks l._from l.room (vec_items l.outlets) (inflow_of (vec_items l.inlets))
