-- Of those with its hash the index finds the one that has the serial number.
use Rattle.mv_repository.proofs.Lemmas.{◌≡◌, AreSlots, IsSpot, List, None, ShelfParts, Slot, SlotTable, Some, ap, arith, bytes_eq, get_or, length, no_slot, same_text, serial_of, spot-none, spot-there, subst, sym, true, ◌∙◌}
use Rattle.mv_repository.proofs.shelf.Shelf.find.Goals as goal

pub returns-in-Some : goal.returns-in-Some
returns-in-Some c = let log = c.args.log.now in
    let table : SlotTable = record { hashes = c.self.inside.index.hashes; slots = c.self.inside.slots.items; names = c.self.inside.names.items } in
    let there : bytes_eq (serial_of log table.names (get_or table.slots c.in-Some.number no_slot)) c.args.serial.now ≡ true =
    (λ i. bytes_eq (serial_of log (sym c.as_slice-names.ensures.value i) (get_or (sym c.as_slice-slots.ensures.value i) c.in-Some.number no_slot)) c.args.serial.now) ∙ sym c.in-Some.ensures.found in
    subst (λ (parts : ShelfParts). IsSpot log parts.table c.args.serial.now (record { hash = c.hash_of-hash.result; number = c.in-Some.number; slot = Some (get_or c.as_slice-slots.result.now c.in-Some.number no_slot) })) c.self.view_is
    (subst (λ (slots : List Slot). IsSpot log table c.args.serial.now (record { hash = c.hash_of-hash.result; number = c.in-Some.number; slot = Some (get_or slots c.in-Some.number no_slot) })) (sym c.as_slice-slots.ensures.value)
    (spot-there log table (subst (λ (parts : ShelfParts). AreSlots log parts.table) (sym c.self.view_is) c.requires) c.args.serial.now c.hash_of-hash.result c.in-Some.number c.hash_of-hash.ensures
    (omega (arith, c.in-Some.ensures.within, c.self.invariant.0)) (same_text _ c.args.serial.now (sym there))))

pub returns-in-None : goal.returns-in-None
returns-in-None c = let log = c.args.log.now in
    let table : SlotTable = record { hashes = c.self.inside.index.hashes; slots = c.self.inside.slots.items; names = c.self.inside.names.items } in
    subst (λ (parts : ShelfParts). IsSpot log parts.table c.args.serial.now (record { hash = c.hash_of-hash.result; number = length c.as_slice-slots.result.now; slot = None })) c.self.view_is
    (spot-none log table (subst (λ (parts : ShelfParts). AreSlots log parts.table) (sym c.self.view_is) c.requires) c.args.serial.now c.hash_of-hash.result (length c.as_slice-slots.result.now) c.hash_of-hash.ensures (omega (arith, ap length c.as_slice-slots.ensures.value)) (λ number l e.
    (λ i. bytes_eq (serial_of log (sym c.as_slice-names.ensures.value i) (get_or (sym c.as_slice-slots.ensures.value i) number no_slot)) c.args.serial.now)
    ∙ sym (c.in-None.ensures.absent number l (e ∙ sym c.hash_of-hash.ensures))))
