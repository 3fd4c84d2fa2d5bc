-- The slot goes under its serial number.
use Rattle.mv_repository.proofs.Lemmas.{IsWritten, SlotTable, arith, subst, sym, written-behind, written-there, ◌∙◌, common_steps}
use Rattle.mv_repository.proofs.shelf.Shelf.put.Goals as goal

pub returns-then-spot-len-clause-written : goal.returns-then-spot-len-clause-written
returns-then-spot-len-clause-written c =
    let table : SlotTable = record { hashes = c.self.inside.index.hashes; slots = c.self.inside.slots.items; names = c.self.inside.names.items } in
    rw (← c.self.view_is) (λ log serial are is named own. written-there log table are serial c.args.slot named own c.args.spot.number (omega arith) (is.number (omega arith)))

pub returns-else-spot-len-clause-written : goal.returns-else-spot-len-clause-written
returns-else-spot-len-clause-written c =
    let table : SlotTable = record { hashes = c.self.inside.index.hashes; slots = c.self.inside.slots.items; names = c.self.inside.names.items } in
    rw (← c.self.view_is) (λ log serial are is named own.
    subst (λ (new : SlotTable). IsWritten log table new serial c.args.slot) (sym (λ i. record { hashes = c.push.ensures.hashes i; slots = c.push_reserved.ensures.items i; names = table.names }))
    (written-behind log table are serial c.args.slot named own c.args.spot.hash is.hash (sym is.slot ∙ is.none (omega arith))))

pub invariant_of-self-else-spot-len : goal.invariant_of-self-else-spot-len
invariant_of-self-else-spot-len c = grind (arith, common_steps)
