-- What is kept of a pack is what the log means, on the shelf of its product if it has one.
use Rattle.mv_repository.proofs.Lemmas.{◌≡◌, ◌∙◌, [], AreShelfOf, AreSlots, List, LogEntry, ap, arith, bytes_eq, common_steps, kept_by, keyed, lookup, rules, shelf_of, subst, sym, kept_of, life_of}
use Rattle.mv_repository.proofs.repository.Repository.kept.Goals as goal

pub find-requires : goal.find-requires
find-requires c = let log : c.as_slice.result.now ≡ c.self.inside.log.items = search rules in
    let shelf : shelf_of c.args.key.now.gtin c.self.inside.tables.shelves.entries ≡ c.in-Some.shelf.now = search rules in
    subst (λ (one : List LogEntry). AreSlots one c.in-Some.shelf.now.table) (sym log)
    (subst (AreShelfOf c.self.inside.log.items c.args.key.now.gtin) shelf (c.self.invariant.0.shelves c.args.key.now.gtin)).slots

pub returns-in-Some : goal.returns-in-Some
returns-in-Some c = let log : c.as_slice.result.now ≡ c.self.inside.log.items = search rules in
    let shelf : shelf_of c.args.key.now.gtin c.self.inside.tables.shelves.entries ≡ c.in-Some.shelf.now = search rules in
    let slots = c.in-Some.shelf.now.table in
    let are = subst (AreShelfOf c.self.inside.log.items c.args.key.now.gtin) shelf (c.self.invariant.0.shelves c.args.key.now.gtin) in
    c.kept.ensures
    ∙ ap (λ slot. record (kept_by c.in-Some.shelf.now.tracks slot) { blocks = [] }) (c.find.ensures.slot ∙ ap (λ (one : List LogEntry). lookup (bytes_eq c.args.key.now.serial) (keyed one slots.names slots.slots)) log)
    ∙ (are.shelf.packs c.args.key.now.serial).kept.bare ∙ (λ i. kept_of (life_of c.args.key.now (c.self.view_is i).log))

pub returns-in-None : goal.returns-in-None
returns-in-None c = grind (arith, common_steps, (c.self.invariant.0.shelves c.args.key.now.gtin).shelf.packs c.args.key.now.serial)
