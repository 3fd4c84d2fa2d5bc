use Rattle.mv_ends.proofs.Words.{AreOpened, vec_items}
use Rattle.mv_ends.proofs.opening.open.Given as goal

-- the rings of each party so far are opened
abbrev pub invariant-loop-party : goal.invariant-loop-party
invariant-loop-party l = AreOpened l.fn.parties l.fn.limits l.party (vec_items l.opened.uplinks) (vec_items l.opened.rows) (vec_items l.opened.repos)
