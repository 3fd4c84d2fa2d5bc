-- The serial numbers of a product have the slots of its shelf, if it has one.
use Rattle.mv_repository.proofs.Lemmas.{◌≡◌, ◌∙◌, AreShelfOf, IsNamed, List, LogEntry, SlotTable, keys_keyed, map, rules, serial_of, serials_of, shelf_of, subst, sym, AllByRecursion}
use Rattle.mv_repository.proofs.repository.Repository.serials.Goals as goal

pub returns-in-Some : goal.returns-in-Some
returns-in-Some c = let shelf : shelf_of c.args.gtin.now c.self.inside.tables.shelves.entries ≡ c.in-Some.shelf.now = search rules in
    let of = subst (AreShelfOf c.self.inside.log.items c.args.gtin.now) shelf (c.self.invariant.0.shelves c.args.gtin.now) in
    let slots = c.in-Some.shelf.now.table in
    (λ i. map (serial_of (c.as_slice.ensures.value i) (c.as_slice-in-Some.ensures.value i)) (c.as_slice-in-Some-2.ensures.value i))
    ∙ (λ i. map (serial_of c.self.inside.log.items (c.shelf.view_is i).table.names) (c.shelf.view_is i).table.slots)
    ∙ sym (keys_keyed c.self.inside.log.items slots.names slots.slots) ∙ of.shelf.serials ∙ (λ i. serials_of (c.self.view_is i).log c.args.gtin.now)

pub invariant_of-t-6 : goal.invariant_of-t-6
invariant_of-t-6 c = let shelf : shelf_of c.args.gtin.now c.self.inside.tables.shelves.entries ≡ c.in-Some.shelf.now = search rules in
    let of = subst (AreShelfOf c.self.inside.log.items c.args.gtin.now) shelf (c.self.invariant.0.shelves c.args.gtin.now) in
    let lent : c.in-Some.shelf.now.table ≡ record { hashes = c.shelf.inside.index.hashes; slots = c.as_slice-in-Some-2.result.now; names = c.as_slice-in-Some.result.now } =
    (λ i. (sym c.shelf.view_is i).table) ∙ (λ i. record { hashes = c.shelf.inside.index.hashes; slots = sym c.as_slice-in-Some-2.ensures.value i; names = sym c.as_slice-in-Some.ensures.value i }) in
    subst (λ (log : List LogEntry). AllByRecursion (IsNamed log c.as_slice-in-Some.result.now) c.as_slice-in-Some-2.result.now) (sym c.as_slice.ensures.value)
    (subst (λ (table : SlotTable). AllByRecursion (IsNamed c.self.inside.log.items table.names) table.slots) lent of.slots.named)
