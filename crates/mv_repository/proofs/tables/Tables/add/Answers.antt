-- Each form of entry bears on one table; an upload and a status bear on the shelf of one product.
use Rattle.mv_repository.proofs.Lemmas.{◌≡◌, AreSamePacks, IsShelved, List, NoMaster, StopsNone, rules, get_or, take, no_entry, arith, none-noted, other-noted, few-more, stops-at, tables-mastered, comes_late, masters-late-at, masters-latest-at, lookup, bytes_eq, false, unwrap_or, ◌∙◌, master-in, shelf-written, sym, tables-follow, tables-noted, tables-same, refl, true, on_both, map_err, product-follows, subst, AreShelfOf, shelves-follow, uploaded-count, ℕ}
use Rattle.mv_repository.proofs.tables.Tables.add.Goals.{in-Upload, in-Upload-2}
use Rattle.mv_repository.proofs.tables.Tables.add.Goals as goal

pub returns-then-matches-clause-ok : goal.returns-then-matches-clause-ok
returns-then-matches-clause-ok c = let item = (get_or c.args.log.now c.args.place no_entry).item in
    let own = master-in item c.in-Some.message.now _ _ c.in-Some.ensures c.in-Master.is in
    let late : comes_late c.args.log.now c.args.place (lookup (bytes_eq c.in-Master.gtin) c.args.self.now.masters.entries) ≡ true = grind arith in
    tables-mastered c.args.log.now c.args.place c.requires.last c.args.self.now _ c.in-Master.gtin own c.requires.tables
    (masters-late-at c.args.log.now c.args.place c.args.self.now.masters.entries c.in-Master.gtin c.requires.last own c.requires.tables.masters late) refl refl (omega arith)

pub returns-in-Ok-clause-ok : goal.returns-in-Ok-clause-ok
returns-in-Ok-clause-ok c = let item = (get_or c.args.log.now c.args.place no_entry).item in
    let own = master-in item c.in-Some.message.now _ _ c.in-Some.ensures c.in-Master.is in
    let late : comes_late c.args.log.now c.args.place (lookup (bytes_eq c.in-Master.gtin) c.args.self.now.masters.entries) ≡ false = grind arith in
    tables-mastered c.args.log.now c.args.place c.requires.last c.args.self.now _ c.in-Master.gtin own c.requires.tables
    (masters-latest-at c.args.log.now c.args.place c.args.self.now.masters.entries c.in-Master.gtin c.requires.last own c.requires.tables.masters c.insert.new.self.entries late (λ other. search rules)) refl refl (omega arith)

pub add-requires-clause-shelf : goal.add-requires-clause-shelf
add-requires-clause-shelf c = subst (AreShelfOf (take c.args.place c.args.log.now) _) (sym (c.or_insert-shelf.ensures.value ∙ (λ i. unwrap_or (c.in-Ok-entry.ensures.value i) (c.new.ensures i)))) (c.requires.tables.shelves _)

-- the entry bears on one product, whose shelf is written
module _ (c : goal.After-self-in-Upload-2-1) where
  follows : StopsNone (get_or c.args.log.now c.args.place no_entry).item × NoMaster (get_or c.args.log.now c.args.place no_entry).item
      × ((other : List ℕ) → bytes_eq c.in-Upload-1.gtin.now other ≡ false → AreSamePacks c.args.log.now (take c.args.place c.args.log.now) other)
  follows = product-follows c.args.log.now c.args.place c.requires.last c.in-Upload-1.gtin.now c.in-Some.message.now (sym c.in-Some.ensures) (elim c.in-Upload-1.branch [ in-Upload w ↦ search rules | in-Upload-2 w ↦ search rules ])

  shelved : IsShelved c.args.self.now.shelves.entries c.self-in-Upload-2-1.given.0.entries c.in-Upload-1.gtin.now c.add.new.self
  shelved = shelf-written c.args.self.now.shelves.entries _ _ c.in-Upload-1.gtin.now c.add.new.self (c.in-Ok-entry.ensures.update.0 c.add.new.self).0 (grind arith)

pub returns-in-Ok-entry-clause-ok : goal.returns-in-Ok-entry-clause-ok
returns-in-Ok-entry-clause-ok c = on_both c.add.result c.add.ensures.ok c.add.ensures.few (λ now few. tables-follow c.args.log.now c.args.place c.requires.last c.args.self.now _ c.in-Upload-1.gtin.now c.add.new.self (follows c).1 c.requires.tables refl
    (stops-at c.args.log.now c.args.place c.requires.last c.args.self.now.stops (follows c).0 c.requires.tables.stops) (shelved c) now (follows c).2
    (few-more c.args.log.now c.args.place c.requires.last (omega (arith, few, uploaded-count (get_or c.args.log.now c.args.place no_entry).item)) (omega arith) c.requires.tables.few))

pub returns-in-Ok-entry-clause-err : goal.returns-in-Ok-entry-clause-err
returns-in-Ok-entry-clause-err c = let before = take c.args.place c.args.log.now in map_err c.add.result c.add.ensures.err (λ now. record { masters = c.requires.tables.masters; stops = c.requires.tables.stops; few = c.requires.tables.few; shelves = shelves-follow c.args.self.now.shelves.entries _ c.in-Upload-1.gtin.now c.add.new.self (shelved c) before before c.requires.tables.shelves now (λ other e parts h. h) })

pub returns-in_default-clause-ok : goal.returns-in_default-clause-ok
returns-in_default-clause-ok c =
    tables-noted c.args.log.now c.args.place c.requires.last c.args.self.now (omega arith) (none-noted (get_or c.args.log.now c.args.place no_entry).item (sym c.in_default.ensures)) c.requires.tables

pub returns-in_default-message-clause-ok : goal.returns-in_default-message-clause-ok
returns-in_default-message-clause-ok c =
    tables-noted c.args.log.now c.args.place c.requires.last c.args.self.now (omega arith) (other-noted (get_or c.args.log.now c.args.place no_entry).item c.in-Some.message.now (sym c.in-Some.ensures) c.in_default-message.not-Master c.in_default-message.not-Upload c.in_default-message.not-Status c.in_default-message.not-Recall c.in_default-message.not-Withdraw) c.requires.tables

-- where memory is refused the tables are those that they were
pub returns-in_default-entry-clause-err : goal.returns-in_default-entry-clause-err
returns-in_default-entry-clause-err c = tables-same (take c.args.place c.args.log.now) c.args.self.now _ refl refl refl (search rules) c.requires.tables

pub returns-in-Err-clause-err : goal.returns-in-Err-clause-err
returns-in-Err-clause-err c = tables-same (take c.args.place c.args.log.now) c.args.self.now _ (search rules) refl refl refl c.requires.tables
