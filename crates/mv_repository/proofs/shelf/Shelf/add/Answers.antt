-- One serial number more.
use Rattle.mv_repository.proofs.Lemmas.{◌≡◌, ◌+◌, ◌∷◌, Some, slice_get, slice_get-get_or, AreSlots, ArePacksOf, IsShelfOf, SlotTable, keyed, shelf-seen, shelf-same, on_err, Kept, List, [], ap, arith, bytes_eq, comes_first, cond, fold, fold-append, get_or, get_or_default, insert_key, kept_in, length, listing_of, log-length, log-split, nat_tests, new-more, no_entry, product-upload, refl, rules, serials-at, serials_of, shelf_by, subst, sym, take, take_all, take_more, text-self, upload-adds, upload-all, upload-names, upload-serials, ℕ, ◌∙◌, common_steps}
use Rattle.mv_repository.proofs.shelf.Shelf.add.Goals as goal

pub loop-index-init : goal.loop-index-init
loop-index-init c = let whole = c.args.newest.now.log.now in
    let place = c.args.newest.now.place in
    let hashes = (λ i. (c.touch.ensures i).hashes) ∙ c.reserve.ensures.hashes in
    let longer = subst (λ (table : SlotTable). AreSlots whole table × IsShelfOf (take place whole) c.args.gtin.now (record { slots = keyed whole table.names table.slots; tracks = c.self.inside.tracks.items; listing = listing_of c.self.inside.listing }))
    (sym (λ i. record { hashes = hashes i; slots = c.reserve-2.ensures.items i; names = c.self.inside.names.items })) (shelf-seen whole place c.args.gtin.now c.self.view_is c.requires.shelf) in
    let room : c.touch.new.self.room ≡ c.reserve.new.self.room = λ i. (c.touch.ensures i).room in
    record { room = grind (arith, common_steps, room); slots = longer.0; packs = longer.1.packs; keys = longer.1.serials; new = refl; least = omega arith }

pub loop-index-preserved : goal.loop-index-preserved
loop-index-preserved c = let whole = c.args.newest.now.log.now in
    let place = c.args.newest.now.place in
    let at = c.loop-index.index in
    let upload = product-upload _ _ _ _ _ _ _ _ _ c.requires.message c.requires.product c.in-Upload.is c.as_slice-serials.ensures in
    let old = shelf_by whole c.loop-index.self in
    let done = c.put_upload-is_first.ensures in
    let split = log-split whole place c.args.newest.now.last in
    let before = serials_of (take place whole) c.args.gtin.now in
    let serial : c.index-serials-index.result ≡ get_or c.as_slice-serials.result.now at [] = c.index-serials-index.is ∙ get_or_default c.as_slice-serials.result.now at _ [] c.loop-index-test.true in
    let counted : c.if-is_first.new ≡ cond c.put_upload-is_first.result (c.loop-index.new + 1) c.loop-index.new = search rules in
    record {
      room = omega (arith, c.loop-index.invariant.room, done.room);
      slots = done.slots;
      packs = upload-adds whole place c.args.newest.now.last c.args.newest.now.stops.now c.args.gtin.now c.as_slice-serials.result.now c.requires.stops upload
          at old (shelf_by whole c.put_upload-is_first.new.self) c.index-serials-index.result c.loop-index-test.true serial c.loop-index.invariant.packs done.put;
      keys = done.put.changed.keys ∙ (λ i. insert_key bytes_eq (c.loop-index.invariant.keys i) (serial i))
          ∙ sym (ap (fold (insert_key bytes_eq) before) (take_more c.as_slice-serials.result.now at [] c.loop-index-test.true) ∙ fold-append (insert_key bytes_eq) before (take at c.as_slice-serials.result.now) (get_or c.as_slice-serials.result.now at [] ∷ []));
      new = counted ∙ new-more (take place whole) (get_or whole place no_entry) c.args.gtin.now c.as_slice-serials.result.now upload whole place split (log-length whole place c.args.newest.now.last)
          at c.loop-index.new c.put_upload-is_first.result c.loop-index-test.true
          (done.first ∙ ap (λ (one : List ℕ). comes_first whole place (kept_in old one).birth) serial ∙ ap (λ (k : Kept). comes_first whole place k.birth) (c.loop-index.invariant.packs (get_or c.as_slice-serials.result.now at [])).kept.bare)
          c.loop-index.invariant.new;
      least = grind (arith, nat_tests, counted, c.loop-index.invariant.least);
    }

pub returns-clause-ok : goal.returns-clause-ok
returns-clause-ok c = let whole = c.args.newest.now.log.now in
    let place = c.args.newest.now.place in
    let all : take c.loop-index.index c.as_slice-serials.result.now ≡ c.as_slice-serials.result.now = take_all c.loop-index.index c.as_slice-serials.result.now (omega arith) in
    let upload = product-upload _ _ _ _ _ _ _ _ _ c.requires.message c.requires.product c.in-Upload.is c.as_slice-serials.ensures in
    let shelf = shelf_by whole c.loop-index.self in
    record {
      slots = c.loop-index.invariant.slots;
      shelf = record {
        packs = upload-all whole place c.args.newest.now.last c.args.newest.now.stops.now c.args.gtin.now c.as_slice-serials.result.now c.requires.stops upload shelf
            (subst (λ (l : List (List ℕ)). ArePacksOf whole (take place whole) l c.args.gtin.now shelf) all c.loop-index.invariant.packs);
        serials = c.loop-index.invariant.keys ∙ ap (fold (insert_key bytes_eq) (serials_of (take place whole) c.args.gtin.now)) all
            ∙ sym (serials-at whole place c.args.gtin.now c.as_slice-serials.result.now c.args.newest.now.last
            (upload-serials c.args.gtin.now c.args.gtin.now c.as_slice-serials.result.now (get_or whole place no_entry).item upload ∙ ap (λ b. cond b c.as_slice-serials.result.now []) (text-self c.args.gtin.now)));
      };
    }

pub returns-clause-effect : goal.returns-clause-effect
returns-clause-effect c = grind (arith, common_steps)

-- where memory is refused, all is kept as it was
pub returns-in_err-and-clause-err : goal.returns-in_err-and-clause-err
returns-in_err-and-clause-err c = on_err c.from_residual.result _ (shelf-same _ _ c.args.self.now _ ((λ i. record { hashes = c.reserve.ensures.hashes i; slots = c.reserve-2.ensures.items i; names = c.self.inside.names.items }) ∙ (λ i. (c.self.view_is i).table)) (λ i. (c.self.view_is i).tracks) (λ i. (c.self.view_is i).listing) c.requires.shelf)

pub put_upload-is_first-requires-clause-named : goal.put_upload-is_first-requires-clause-named
put_upload-is_first-requires-clause-named c = ap (λ (l : List (List ℕ)). slice_get l c.loop-index.index) (upload-names _ c.args.gtin.now c.as_slice-serials.result.now (product-upload _ _ _ _ _ _ _ _ _ c.requires.message c.requires.product c.in-Upload.is c.as_slice-serials.ensures)) ∙ slice_get-get_or c.as_slice-serials.result.now c.loop-index.index c.index-serials-index.result c.loop-index-test.true ∙ ap Some (sym c.index-serials-index.is)

-- the lists are as long as each other
pub invariant_of-self : goal.invariant_of-self
invariant_of-self c = (ap length c.reserve.ensures.hashes ∙ c.self.invariant.0 ∙ sym (ap length c.reserve-2.ensures.items), c.self.invariant.1)

pub invariant_of-self-2 : goal.invariant_of-self-2
invariant_of-self-2 c = ((λ i. length (c.touch.ensures i).hashes) ∙ ap length c.reserve.ensures.hashes ∙ c.self.invariant.0 ∙ sym (ap length c.reserve-2.ensures.items), c.self.invariant.1)
