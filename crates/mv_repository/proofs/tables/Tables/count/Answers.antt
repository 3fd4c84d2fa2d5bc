-- Found at once where no other search comes first; then no shelf is left.
use Rattle.mv_repository.proofs.Lemmas.{arith, common_steps, counts-whole}
use Rattle.mv_repository.proofs.tables.Tables.count.Goals as goal

pub loop-shelf-preserved : goal.loop-shelf-preserved
loop-shelf-preserved c = grind (arith, common_steps)

pub returns : goal.returns
returns c log are = let l = c.loop-shelf in
    counts-whole log c.args.self.now l.held l.active l.shelf-iterator are c.iter-shelf-items.ensures.unique c.in-None.ensures.steps.0 l.invariant.held l.invariant.active
