-- The first works out the packs that it may bear on; any other changes none.
use Rattle.mv_repository.proofs.Lemmas.{◌≡◌, ◌∙◌, AreStopsOf, arith, bytes_eq, comes_first, nat_tests, rules, ap, refl, subst, sym, get_or, take, true, false, Option, None, lookup, unwrap_or, ShelfParts, AreShelfOf, first_place, no_shelf, recall-added, shelf_of, no_entry, stopped_product, shelf-empty, few-at, masters-at, shelves-at, shelved-none, tables-follow, tables-same, stop-form, stop-does, stop-leaves, stop-away, stops-stand, withdrawal-added, AreTablesOf, Bool, effect_of, lasting_effect, not, HasFirst, Tables, is_recall_of, is_same_batch, is_withdrawal_of, is_ok, OnOk, Result, first-added}
use Rattle.mv_repository.proofs.tables.Tables.add_stop.Goals.{After-comes_first, Else-not-is_kept, in-OfBatch, in-OfBatch-stop, in-OfProduct, in-OfProduct-stop}
use Rattle.mv_repository.proofs.tables.Tables.add_stop.Goals as goal

kept-so : {A E : Type 0} (P : Type 0) → (r : Result A E) → OnOk r P → is_ok r ≡ true → P
kept-so P r p e = grind (arith, nat_tests)

module _ (c : After-comes_first) where
  first : c.comes_first.result ≡ comes_first c.args.log.now c.args.place (first_place c.args.stop.now c.args.self.now.stops)
  first = elim c.match-stop.branch [ in-OfBatch w ↦ grind arith | in-OfProduct w ↦ grind arith ]

  effect : (b : Bool) → b ≡ c.comes_first.result → lasting_effect (not b) ≡ effect_of (take c.args.place c.args.log.now) (get_or c.args.log.now c.args.place no_entry)
  effect b e = stop-does c.args.log.now c.args.place c.requires.last c.args.self.now.stops c.args.stop.now b c.requires.tables.stops c.requires.stop (e ∙ first)

-- the entry stands in the table of its kind, and the other tables stay
module _ (c : Else-not-is_kept) where
  comes : comes_first c.args.log.now c.args.place (first_place c.args.stop.now c.args.self.now.stops) ≡ true
  comes = elim c.match-stop.branch [ in-OfBatch w ↦ grind arith | in-OfProduct w ↦ grind arith ]

  added : AreStopsOf c.args.log.now c.match-stop-2.self.stops
  added = elim c.match-stop-2.branch [
    | in-OfBatch-stop w ↦
        let has : HasFirst is_same_batch c.args.log.now c.args.place w.copy.result c.args.self.now.stops.recalls.entries w.insert.new.self.entries = first-added is_same_batch _ _ _ _ _ (grind (arith, comes)) (kept-so _ w.insert.result w.insert.ensures.updates (grind arith)).0 (kept-so _ w.insert.result w.insert.ensures.entries (grind arith)) in
        let own : is_recall_of w.copy.result (get_or c.args.log.now c.args.place no_entry).item ≡ true = grind arith in
        let are = recall-added c.args.log.now c.args.place c.requires.last c.args.self.now.stops w.copy.result w.insert.new.self.entries c.requires.tables.stops own has in
        subst (AreStopsOf c.args.log.now) (λ i. (sym w.self-is i).stops) (record { recalls = are.0; withdrawals = are.1 })
    | in-OfProduct-stop w ↦
        let has : HasFirst bytes_eq c.args.log.now c.args.place w.in-OfProduct-stop.gtin.now c.args.self.now.stops.withdrawals.entries w.insert-in-OfProduct-stop.new.self.entries = first-added bytes_eq _ _ _ _ _ (grind (arith, comes)) (kept-so _ w.insert-in-OfProduct-stop.result w.insert-in-OfProduct-stop.ensures.updates (grind arith)).0 (kept-so _ w.insert-in-OfProduct-stop.result w.insert-in-OfProduct-stop.ensures.entries (grind arith)) in
        let own : is_withdrawal_of w.in-OfProduct-stop.gtin.now (get_or c.args.log.now c.args.place no_entry).item ≡ true = grind arith in
        let are = withdrawal-added c.args.log.now c.args.place c.requires.last c.args.self.now.stops w.in-OfProduct-stop.gtin.now w.insert-in-OfProduct-stop.new.self.entries c.requires.tables.stops own has in
        subst (AreStopsOf c.args.log.now) (λ i. (sym w.self-is i).stops) (record { recalls = are.0; withdrawals = are.1 })
  ]

  -- the other tables are those of the log before it
  abbrev was : Tables
  was = record c.match-stop-2.self { stops = c.args.self.now.stops }

  tables : AreTablesOf (take c.args.place c.args.log.now) was
  tables = elim c.match-stop-2.branch [
    | in-OfBatch-stop w ↦ subst (AreTablesOf (take c.args.place c.args.log.now)) (λ i. record (sym w.self-is i) { stops = c.args.self.now.stops }) c.requires.tables
    | in-OfProduct-stop w ↦ subst (AreTablesOf (take c.args.place c.args.log.now)) (λ i. record (sym w.self-is i) { stops = c.args.self.now.stops }) c.requires.tables
  ]

pub returns-then-not-comes_first-clause-ok : goal.returns-then-not-comes_first-clause-ok
returns-then-not-comes_first-clause-ok c = let later = sym (first (goal.at.returns-then-not-comes_first-clause-ok c).After-comes_first) ∙ c.if-not-comes_first.true in
    let are = c.requires.tables in
    let form = stop-form c.args.stop.now (get_or c.args.log.now c.args.place no_entry).item c.requires.stop in
    record {
      masters = masters-at c.args.log.now c.args.place c.requires.last c.args.self.now.masters.entries form.1 are.masters;
      stops = stops-stand c.args.log.now c.args.place c.requires.last c.args.self.now.stops c.args.stop.now are.stops c.requires.stop later;
      shelves = shelves-at c.args.log.now c.args.place c.requires.last c.args.self.now.shelves.entries form.0 (stop-leaves c.args.log.now c.args.place c.requires.last c.args.self.now.stops c.args.stop.now are.stops c.requires.stop later) are.shelves;
      few = few-at c.args.log.now c.args.place c.requires.last form.0.1 (omega arith) are.few;
    }

pub returns-then-not-comes_first-clause-effect : goal.returns-then-not-comes_first-clause-effect
returns-then-not-comes_first-clause-effect c = effect (goal.at.returns-then-not-comes_first-clause-effect c).After-comes_first false (sym c.if-not-comes_first.true)

pub returns-then-not-is_kept-clause-err : goal.returns-then-not-is_kept-clause-err
returns-then-not-is_kept-clause-err c = elim c.match-stop-2.branch [
  | in-OfBatch-stop w ↦ subst (AreTablesOf (take c.args.place c.args.log.now)) (sym w.self-is) (tables-same _ c.args.self.now _ refl (grind arith) refl refl c.requires.tables)
  | in-OfProduct-stop w ↦ subst (AreTablesOf (take c.args.place c.args.log.now)) (sym w.self-is) (tables-same _ c.args.self.now _ refl refl (grind arith) refl c.requires.tables)
]

pub returns-in_default-clause-ok : goal.returns-in_default-clause-ok
returns-in_default-clause-ok c = let at = (goal.at.returns-in_default-clause-ok c).Else-not-is_kept in
    let form = stop-form c.args.stop.now (get_or c.args.log.now c.args.place no_entry).item c.requires.stop in
    let gtin = stopped_product c.args.stop.now in
    let none : lookup (bytes_eq gtin) (was at).shelves.entries ≡ None = grind arith in
    let empty : shelf_of gtin (was at).shelves.entries ≡ no_shelf = ap (λ (o : Option ShelfParts). unwrap_or o no_shelf) none in
    let left : c.get_mut.follows.lender-at-none.entries ≡ (was at).shelves.entries = search rules in
    tables-follow c.args.log.now c.args.place c.requires.last (was at) _ gtin no_shelf form.1 (tables at) refl (added at) (shelved-none (was at).shelves.entries _ gtin left empty)
    (shelf-empty c.args.log.now c.args.place c.match-stop-2.self.stops gtin c.requires.last (added at) form.0 (subst (AreShelfOf (take c.args.place c.args.log.now) gtin) empty ((tables at).shelves gtin)))
    (stop-away c.args.log.now c.args.place c.requires.last c.args.stop.now c.requires.stop) (few-at c.args.log.now c.args.place c.requires.last form.0.1 (omega arith) (tables at).few)

pub returns-in_default-clause-effect : goal.returns-in_default-clause-effect
returns-in_default-clause-effect c = effect (goal.at.returns-in_default-clause-effect c).After-comes_first true (sym c.if-not-comes_first.false)

pub refresh-requires-clause-stops : goal.refresh-requires-clause-stops
refresh-requires-clause-stops c = added (goal.at.refresh-requires-clause-stops c).Else-not-is_kept

pub refresh-requires-clause-shelf : goal.refresh-requires-clause-shelf
refresh-requires-clause-shelf c = let at = (goal.at.refresh-requires-clause-shelf c).Else-not-is_kept in
    let gtin = stopped_product c.args.stop.now in
    let shelf : shelf_of gtin (was at).shelves.entries ≡ c.in-Some.shelf.now = grind arith in
    subst (AreShelfOf (take c.args.place c.args.log.now) gtin) shelf ((tables at).shelves gtin)

pub returns-clause-ok : goal.returns-clause-ok
returns-clause-ok c = let at = (goal.at.returns-clause-ok c).Else-not-is_kept in
    let form = stop-form c.args.stop.now (get_or c.args.log.now c.args.place no_entry).item c.requires.stop in
    tables-follow c.args.log.now c.args.place c.requires.last (was at) _ (stopped_product c.args.stop.now) c.refresh.new.self form.1 (tables at) refl (added at) (λ other. grind (arith, nat_tests))
    c.refresh.ensures (stop-away c.args.log.now c.args.place c.requires.last c.args.stop.now c.requires.stop) (few-at c.args.log.now c.args.place c.requires.last form.0.1 (omega arith) (tables at).few)

pub returns-clause-effect : goal.returns-clause-effect
returns-clause-effect c = effect (goal.at.returns-clause-effect c).After-comes_first true (sym c.if-not-comes_first.false)
