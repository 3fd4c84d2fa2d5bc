-- The pack has the status, and no other track is touched.
use Rattle.mv_repository.proofs.Lemmas.{◌≡◌, ◌++◌, ◌∷◌, AreSlots, IfSome, IsChanged, IsKept, IsShelfOf, IsWritten, Kept, List, LogEntry, Option, Own, ShelfTable, Slot, SlotTable, Some, Writes, [], ap, arith, batch-kept, batch-noted, bytes_eq, entry_at, made_batch, on_err, shelf_by, found-own, get_or, get_or_append_left, get_or_push, is-changed, is_listed, keyed, kept_by, kept_in, length, life_batch, life_of, listing_of, lists, lookup, map_err, nothing_kept, on_map, option_and_then, own-changed, own-kept, own-set, own-there, own-within, refl, shelf-same, shelf-seen, status-others, subst, sym, take, true, written-own, ℕ, ◌∙◌, entry_at, made_batch, ListingTable, length-set, set, set-get_or}
use Rattle.mv_repository.proofs.shelf.Shelf.add_status.Goals.{In-Some-Own}
use Rattle.mv_repository.proofs.shelf.Shelf.add_status.Goals as goal

pub find-spot-requires : goal.find-spot-requires
find-spot-requires c = (shelf-seen c.args.newest.now.log.now c.args.newest.now.place c.args.pack.now.gtin refl c.requires.shelf).0

-- the track of the pack is written
module _ (c : In-Some-Own) where
  abbrev whole : List LogEntry
  whole = c.args.newest.now.log.now

  abbrev table : SlotTable
  table = record { hashes = c.self.inside.index.hashes; slots = c.self.inside.slots.items; names = c.self.inside.names.items }

  abbrev old : ShelfTable
  old = record { slots = keyed whole table.names table.slots; tracks = c.self.inside.tracks.items; listing = listing_of c.self.inside.listing }

  seen : AreSlots whole table × IsShelfOf (take c.args.newest.now.place whole) c.args.pack.now.gtin old
  seen = shelf-seen whole c.args.newest.now.place c.args.pack.now.gtin c.self.view_is c.requires.shelf

  found : lookup (bytes_eq c.args.pack.now.serial) old.slots ≡ Some (Own c.in-Some-Own.number)
  found = grind arith

pub index_mut-requires : goal.index_mut-requires
index_mut-requires c = let at = (goal.at.index_mut-requires c).In-Some-Own in
    omega (arith, own-within (whole at) (table at) (seen at).0 (old at).tracks c.self.invariant.1 c.args.pack.now.serial c.in-Some-Own.number (found at))

pub add_status-requires-clause-kept : goal.add_status-requires-clause-kept
add_status-requires-clause-kept c = let at = (goal.at.add_status-requires-clause-kept c).In-Some-Own in
    subst (IsKept (life_of c.args.pack.now (take c.args.newest.now.place (whole at))))
    (own-kept (whole at) (table at) (seen at).0 (old at).tracks c.self.invariant.1 c.args.pack.now.serial c.in-Some-Own.number (found at) c.index_mut.result.now c.index_mut.ensures.value)
    ((seen at).1.packs c.args.pack.now.serial).kept

pub returns-in-Some-Own-clause-ok : goal.returns-in-Some-Own-clause-ok
returns-in-Some-Own-clause-ok c = let at = (goal.at.returns-in-Some-Own-clause-ok c).In-Some-Own in
    let pack = c.args.pack.now in
    let track = c.add_status.new.self in
    on_map c.add_status.result c.add_status.ensures.ok (λ now. record {
      slots = (seen at).0;
      shelf = status-others (whole at) c.args.newest.now.place pack c.args.newest.now.last c.requires.own (old at) (record (old at) { tracks = set (old at).tracks c.in-Some-Own.number track }) (seen at).1
          (own-changed (whole at) (table at) (seen at).0 (old at).tracks c.self.invariant.1 pack.serial c.in-Some-Own.number (found at) track (old at).listing (old at).listing (λ batch one h. h)) (record {
            kept = subst (IsKept (life_of pack (whole at))) (sym (own-set (whole at) (table at) (seen at).0 (old at).tracks c.self.invariant.1 pack.serial c.in-Some-Own.number (found at) track)) now;
            listed = subst (λ (batch : Option (List ℕ)). IfSome batch (λ one. is_listed (old at).listing (lookup (bytes_eq pack.serial) (old at).slots) one ≡ true))
                (sym (batch-kept (whole at) c.args.newest.now.place pack c.args.newest.now.last c.requires.own)) ((seen at).1.packs pack.serial).listed;
          });
    })

pub invariant_of-self : goal.invariant_of-self
invariant_of-self c = (c.self.invariant.0, c.self.invariant.1 ∙ sym (length-set c.self.inside.tracks.items c.in-Some-Own.number c.add_status.new.self))

pub returns-in-Some-Own-clause-err : goal.returns-in-Some-Own-clause-err
returns-in-Some-Own-clause-err c =
    map_err c.add_status.result c.add_status.ensures.err (λ same. shelf-same _ _ c.args.self.now _ (λ i. (c.self.view_is i).table)
    (ap (set c.self.inside.tracks.items c.in-Some-Own.number) (same ∙ c.index_mut.ensures.value) ∙ set-get_or c.self.inside.tracks.items c.in-Some-Own.number c.index_mut.result.now ∙ (λ i. (c.self.view_is i).tracks)) (λ i. (c.self.view_is i).listing) c.requires.shelf)

-- the pack gets a track
module _ (c : goal.After-put) where
  abbrev log : List LogEntry
  log = c.args.newest.now.log.now

  abbrev serial : List ℕ
  serial = c.args.pack.now.serial

  abbrev names : List (List ℕ)
  names = c.args.self.now.table.names

  abbrev was : ShelfTable
  was = shelf_by log c.args.self.now

  abbrev new : ShelfTable
  new = shelf_by log c.put.new.self

  are : AreSlots log c.args.self.now.table × IsShelfOf (take c.args.newest.now.place log) c.args.pack.now.gtin was
  are = shelf-seen log c.args.newest.now.place c.args.pack.now.gtin refl c.requires.shelf

  count : length names ≡ length was.tracks
  count = (λ i. length (sym c.self.view_is i).table.names) ∙ c.self.invariant.1 ∙ (λ i. length (c.self.view_is i).tracks)

  written : IsWritten log c.args.self.now.table c.put.new.self.table serial (Own (length names))
  written = written-own log c.args.self.now.table are.0 serial c.find-spot.result c.put.new.self.table c.find-spot.ensures
      (subst (λ (pair : ℕ × SlotTable). Writes c.find-spot.result (Own pair.0) pair.1 c.put.new.self.table)
      (λ i. (c.in_ok-number.ensures.pushed.0 i, c.in_ok-number.ensures.pushed.2 i)) c.put.ensures.written)

  own : lookup (bytes_eq serial) new.slots ≡ Some (Own (length names))
  own = found-own serial (Own (length names)) was new written.1

  tracks : new.tracks ≡ was.tracks ++ c.add_status-2.new.self ∷ []
  tracks = (λ i. (c.put.ensures.others i).tracks) ∙ c.in_ok-number.ensures.pushed.3

  now : kept_in new serial ≡ c.add_status-2.new.self
  now = ap (kept_by new.tracks) own ∙ (λ i. get_or (tracks i) (count i) nothing_kept) ∙ get_or_push was.tracks c.add_status-2.new.self nothing_kept (length was.tracks) refl

  -- its track is listed under the batch of its upload
  listed : IfSome (life_batch (life_of c.args.pack.now log)) (λ batch. is_listed new.listing (lookup (bytes_eq serial) new.slots) batch ≡ true)
  listed =
      subst (λ (slot : Option Slot). IfSome (life_batch (life_of c.args.pack.now log)) (λ batch. is_listed new.listing slot batch ≡ true)) (sym own)
      (subst (λ (pair : ℕ × ListingTable). IfSome (life_batch (life_of c.args.pack.now log)) (λ batch. lists pair.1 batch pair.0 ≡ true)) (λ i. (c.in_ok-number.ensures.pushed.0 i, (sym c.put.ensures.others i).listing))
      (subst (λ (batch : Option (List ℕ)). IfSome batch (λ one. lists c.push.new.self.listing one c.in_ok-number.number ≡ true))
      (ap (λ (k : Kept). option_and_then (λ place. made_batch (entry_at log place)) k.birth) c.in_ok-effect.ensures.ok.bare ∙ batch-noted log c.args.pack.now) c.in_ok-number.ensures.listed.0))

  changed : IsChanged serial was new
  changed = is-changed serial (Own (length names)) was new written.1
      (λ other one e is. ap (λ (l : List Kept). get_or l one nothing_kept) tracks ∙ get_or_append_left was.tracks _ nothing_kept one (omega (arith, (own-there log c.args.self.now.table are.0 other one is).0, count)))
      (λ batch one h. ap (λ (l : ListingTable). lists l batch one) (λ i. (c.put.ensures.others i).listing) ∙ c.in_ok-number.ensures.listed.1 batch one h)

pub add_status-requires-2-clause-kept : goal.add_status-requires-2-clause-kept
add_status-requires-2-clause-kept c = let slots = c.args.self.now.table in
    let made : kept_by c.args.self.now.tracks (lookup (bytes_eq c.args.pack.now.serial) (keyed c.args.newest.now.log.now slots.names slots.slots)) ≡ record { birth = c.kept-birth.result.0; statuses = c.new.result.items; by = c.kept-birth.result.2; blocks = c.new-2.result.items } = grind arith in
    subst (IsKept (life_of c.args.pack.now (take c.args.newest.now.place c.args.newest.now.log.now))) made
    ((shelf-seen c.args.newest.now.log.now c.args.newest.now.place c.args.pack.now.gtin refl c.requires.shelf).1.packs c.args.pack.now.serial).kept

pub returns-in_err-number-clause-err : goal.returns-in_err-number-clause-err
returns-in_err-number-clause-err c = let same = c.in_err-number.ensures.err in
    on_err c.from_residual-in_err-number.result _ (shelf-same _ _ c.args.self.now c.push.new.self (λ i. (same i).table) (λ i. (same i).tracks) (λ i. (same i).listing) c.requires.shelf)

pub returns-clause-ok : goal.returns-clause-ok
returns-clause-ok c = record { slots = (written c).0; shelf = status-others (log c) c.args.newest.now.place c.args.pack.now c.args.newest.now.last c.requires.own (was c) (new c) (are c).1 (changed c) (record { kept = subst (IsKept (life_of c.args.pack.now (log c))) (sym (now c)) c.in_ok-effect.ensures.ok; listed = listed c }) }

pub returns-in-Some-Own-clause-effect : goal.returns-in-Some-Own-clause-effect
returns-in-Some-Own-clause-effect c = c.add_status.ensures.effect

pub returns-clause-effect : goal.returns-clause-effect
returns-clause-effect c = c.in_ok-effect.ensures.effect

pub returns-in_err-effect-clause-err : goal.returns-in_err-effect-clause-err
returns-in_err-effect-clause-err c = on_err c.from_residual.result _ c.requires.shelf
