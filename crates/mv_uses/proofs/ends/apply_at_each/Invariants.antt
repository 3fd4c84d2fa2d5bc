use Rattle.std.proofs.Common.{vec_items}
use Rattle.mv_ends.specs.Laws.{AreSameRepos}
use Rattle.mv_uses.proofs.ends.apply_at_each.Given as goal

abbrev pub invariant-loop-end : goal.invariant-loop-end
invariant-loop-end l = AreSameRepos (vec_items l.fn.repos) l.end-items
