-- The pack has a slot, and the other packs keep theirs.
use Rattle.mv_repository.proofs.Lemmas.{◌≡◌, AreSlots, IfSome, IsAgain, IsPut, IsWritten, Kept, List, LogEntry, Made, Option, Own, ShelfParts, ShelfTable, Slot, SlotTable, Some, [], ap, arith, bytes_eq, comes_first, entry_at, false, found-own, get_or_from_slice_get, is-changed, is_listed, keyed, kept_by, kept_in, listing_of, lookup, none-changed, own-changed, own-kept, own-set, own-within, refl, serials_uploaded, shelf_by, slice_get_within, stops_in, subst, sym, true, ◌∙◌, made_batch, set, true≢false, common_steps}
use Rattle.mv_repository.proofs.shelf.Shelf.put_upload.Goals.{After-put, In-Some-Own, Then-not-comes_first, in_default-via-in-Some+in_default, in_default-via-in_default}
use Rattle.mv_repository.proofs.shelf.Shelf.put_upload.Goals as goal

module _ (c : Then-not-comes_first) where
  later : comes_first c.args.newest.now.log.now c.args.newest.now.place (kept_in (shelf_by c.args.newest.now.log.now c.args.self.now) c.args.serial.now).birth ≡ false
  later = grind arith

pub returns-then-not-comes_first-clause-put : goal.returns-then-not-comes_first-clause-put
returns-then-not-comes_first-clause-put c = record { changed = none-changed c.args.newest.now.log.now c.args.newest.now.place c.args.serial.now (shelf_by c.args.newest.now.log.now c.args.self.now) (later c); later = λ e. refl; again = λ e. absurd (true≢false (sym e ∙ later c)); listed = λ e. absurd (true≢false (sym e ∙ later c)) }

pub returns-then-not-comes_first-clause-first : goal.returns-then-not-comes_first-clause-first
returns-then-not-comes_first-clause-first c = sym (later c)

pub returns-then-not-comes_first-clause-slots : goal.returns-then-not-comes_first-clause-slots
returns-then-not-comes_first-clause-slots c = c.requires.slots

-- the slot of the upload is written under the serial number
module _ (c : After-put) where
  abbrev log : List LogEntry
  log = c.args.newest.now.log.now

  abbrev old : ShelfTable
  old = shelf_by log c.args.self.now

  abbrev new : ShelfTable
  new = record old { slots = keyed log c.put.new.self.table.names c.put.new.self.table.slots }

  written : IsWritten log c.args.self.now.table c.put.new.self.table c.args.serial.now (Made c.args.index c.args.newest.now.place)
  written = let named = serials_uploaded (entry_at log c.args.newest.now.place).entry.item in
      c.put.ensures.written log c.args.serial.now c.requires.slots c.find-spot.ensures
      (slice_get_within named c.args.index c.args.serial.now c.requires.named) (get_or_from_slice_get named c.args.index c.args.serial.now [] c.requires.named)

  own : lookup (bytes_eq c.args.serial.now) new.slots ≡ Some (Made c.args.index c.args.newest.now.place)
  own = found-own c.args.serial.now (Made c.args.index c.args.newest.now.place) old new written.1

  first : comes_first log c.args.newest.now.place (kept_in old c.args.serial.now).birth ≡ true
  first = grind arith

  no-statuses : (kept_in old c.args.serial.now).statuses ≡ []
  no-statuses = elim c.in_default.branch [ in_default-via-in-Some+in_default w ↦ grind arith | in_default-via-in_default w ↦ grind arith ]

pub returns-in_default-clause-slots : goal.returns-in_default-clause-slots
returns-in_default-clause-slots c = (written c).0

pub returns-in_default-clause-put : goal.returns-in_default-clause-put
returns-in_default-clause-put c =
    subst (λ (parts : ShelfParts). IsPut (log c) (stops_in (log c) c.args.newest.now.stops.now) c.args.gtin.now c.args.newest.now.place c.args.serial.now (old c) (shelf_by (log c) parts)) (sym c.put.ensures.others) (record {
      changed = is-changed c.args.serial.now (Made c.args.index c.args.newest.now.place) (old c) (new c) (written c).1 (λ other number e is. refl) (λ batch number h. h);
      later = λ e. absurd (true≢false (sym (first c) ∙ e));
      again = λ e. subst (IsAgain (log c) (stops_in (log c) c.args.newest.now.stops.now) c.args.gtin.now (Some c.args.newest.now.place) (kept_in (old c) c.args.serial.now))
          (sym (ap (kept_by (new c).tracks) (own c))) (record { birth = refl; statuses = sym (no-statuses c); worked = record { by = refl; blocks = tt } });
      listed = λ e. subst (λ (slot : Option Slot). IfSome (made_batch (entry_at (log c) c.args.newest.now.place)) (λ batch. is_listed (new c).listing slot batch ≡ true)) (sym (own c)) (grind (arith));
    })

pub returns-in_default-clause-first : goal.returns-in_default-clause-first
returns-in_default-clause-first c = sym (first c)

pub returns-in_default-clause-room : goal.returns-in_default-clause-room
returns-in_default-clause-room c = c.put.ensures.room

-- the track of the pack is written
module _ (c : In-Some-Own) where
  abbrev table : SlotTable
  table = record { hashes = c.self.inside.index.hashes; slots = c.self.inside.slots.items; names = c.self.inside.names.items }

  are : AreSlots c.args.newest.now.log.now table
  are = subst (λ (parts : ShelfParts). AreSlots c.args.newest.now.log.now parts.table) (sym c.self.view_is) c.requires.slots

  found : lookup (bytes_eq c.args.serial.now) (keyed c.args.newest.now.log.now table.names table.slots) ≡ Some (Own c.in-Some-Own.number)
  found = grind arith

  first-there : comes_first c.args.newest.now.log.now c.args.newest.now.place (kept_by c.self.inside.tracks.items (lookup (bytes_eq c.args.serial.now) (keyed c.args.newest.now.log.now table.names table.slots))).birth ≡ true
  first-there = grind arith

pub index_mut-requires : goal.index_mut-requires
index_mut-requires c = let at = (goal.at.index_mut-requires c).In-Some-Own in
    omega (arith, own-within c.args.newest.now.log.now (table at) (are at) c.self.inside.tracks.items c.self.invariant.1 c.args.serial.now c.in-Some-Own.number (found at))

pub returns-clause-slots : goal.returns-clause-slots
returns-clause-slots c = are (goal.at.returns-clause-slots c).In-Some-Own

pub returns-clause-put : goal.returns-clause-put
returns-clause-put c = let at = (goal.at.returns-clause-put c).In-Some-Own in
    let log = c.args.newest.now.log.now in
    let stops = stops_in log c.args.newest.now.stops.now in
    let place = c.args.newest.now.place in
    let serial = c.args.serial.now in
    let one = table at in
    let slots = keyed log one.names one.slots in
    let tracks = c.self.inside.tracks.items in
    let number = c.in-Some-Own.number in
    let track = c.refresh.new.self in
    subst (λ (parts : ShelfParts). IsPut log stops c.args.gtin.now place serial (shelf_by log parts) (record { slots = slots; tracks = set tracks number track; listing = listing_of c.note.new.self })) c.self.view_is (record {
      changed = own-changed log one (are at) tracks c.self.invariant.1 serial number (found at) track (listing_of c.self.inside.listing) (listing_of c.note.new.self) c.note.ensures.kept;
      later = λ e. absurd (true≢false (sym (first-there at) ∙ e));
      again = λ e. subst (λ (pair : Kept × Kept). IsAgain log stops c.args.gtin.now (Some place) pair.0 pair.1)
          (λ i. (sym (own-kept log one (are at) tracks c.self.invariant.1 serial number (found at) c.index_mut.result.now c.index_mut.ensures.value) i, sym (own-set log one (are at) tracks c.self.invariant.1 serial number (found at) track) i)) c.refresh.ensures;
      listed = λ e. subst (λ (slot : Option Slot). IfSome (made_batch (entry_at log place)) (λ batch. is_listed (listing_of c.note.new.self) slot batch ≡ true)) (sym (found at)) c.note.ensures.added;
    })

pub returns-clause-room : goal.returns-clause-room
returns-clause-room c = grind (arith, common_steps)

pub invariant_of-self : goal.invariant_of-self
invariant_of-self c = grind (arith, common_steps)

pub returns-clause-first : goal.returns-clause-first
returns-clause-first c =
    sym (subst (λ (parts : ShelfParts). comes_first c.args.newest.now.log.now c.args.newest.now.place (kept_in (shelf_by c.args.newest.now.log.now parts) c.args.serial.now).birth ≡ true) c.self.view_is (first-there (goal.at.returns-clause-first c).In-Some-Own))
