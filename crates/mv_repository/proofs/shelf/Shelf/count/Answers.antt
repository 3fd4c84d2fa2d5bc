-- Found at once where no other search comes first.
use Rattle.mv_repository.proofs.Lemmas.{arith, common_steps, take_all}
use Rattle.mv_repository.proofs.shelf.Shelf.count.Goals as goal

pub loop-slot-preserved : goal.loop-slot-preserved
loop-slot-preserved c = grind (arith, common_steps)

pub returns-clause-held : goal.returns-clause-held
returns-clause-held c = grind (arith, take_all c.loop-slot.slot-index c.as_slice-slot-items.result.now)

pub returns-clause-active : goal.returns-clause-active
returns-clause-active c = grind (arith, take_all c.loop-slot.slot-index c.as_slice-slot-items.result.now)
