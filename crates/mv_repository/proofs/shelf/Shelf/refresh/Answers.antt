-- The tracks that may be stopped are worked out, and the entry bears on no other pack.
use Rattle.mv_repository.proofs.Lemmas.{◌∙◌, AreShelfOf, Kept, List, ShelfTable, arith, common_steps, get_or, keyed, may_stop, no_entry, nothing_kept, refreshed_more, shelf-again, shelf-seen, stop-form, stop-passes, stopped_product, stops_in, ℕ, IsRefreshed, SlotTable}
use Rattle.mv_repository.proofs.Lemmas.{false, listing_of, rules, true}
use Rattle.std.proofs.lemmas.List.Folds.{list_any-append}
use Rattle.mv_repository.proofs.Words.{list_any, ◌≡◌, ◌+◌, ◌==◌, ◌||◌, nat_lt, nat_tests}
use Rattle.mv_repository.proofs.shelf.Shelf.refresh.Goals.{After-self, in_default-via-in-OfProduct-1, in_default-via-in-OfBatch+else-self}
use Rattle.mv_repository.proofs.shelf.Shelf.refresh.Goals as goal

module _ (c : After-self) where
  abbrev table : SlotTable
  table = record { hashes = c.self.inside.index.hashes; slots = c.self.inside.slots.items; names = c.self.inside.names.items }

  abbrev old : ShelfTable
  old = record { slots = keyed c.args.newest.now.log.now table.names table.slots; tracks = c.self.inside.tracks.items; listing = listing_of c.self.inside.listing }

  refreshed : (tracks : List Kept) (room : ℕ)
      → ((number : ℕ) → IsRefreshed c.args.newest.now.log.now (stops_in c.args.newest.now.log.now c.args.newest.now.stops.now) (stopped_product c.args.stop.now) (may_stop old.listing c.args.stop.now number) (get_or old.tracks number nothing_kept) (get_or tracks number nothing_kept))
      → AreShelfOf c.args.newest.now.log.now (stopped_product c.args.stop.now) (record { table = table; room = room; tracks = tracks; listing = old.listing })
  refreshed tracks room again =
      let longer = shelf-seen c.args.newest.now.log.now c.args.newest.now.place (stopped_product c.args.stop.now) c.self.view_is c.requires.shelf in
      let bears = (stop-form c.args.stop.now (get_or c.args.newest.now.log.now c.args.newest.now.place no_entry).item c.requires.stop).0 in
      let passes = stop-passes c.args.newest.now.log.now c.args.newest.now.place c.args.newest.now.last c.args.stop.now c.requires.stop old longer.1 in
      record { slots = longer.0; shelf = shelf-again c.args.newest.now.log.now c.args.newest.now.place c.args.newest.now.stops.now (stopped_product c.args.stop.now) c.args.newest.now.last c.requires.stops bears (may_stop old.listing c.args.stop.now) old tracks again passes longer.1 }

pub returns-in_default : goal.returns-in_default
returns-in_default c = let at = (goal.at.returns-in_default c).After-self in
    let none : (number : ℕ) → may_stop (old at).listing c.args.stop.now number ≡ false = λ number. search rules in
    refreshed at (old at).tracks _ (λ number. grind (arith, none number))

pub returns : goal.returns
returns c = let at = (goal.at.returns c).After-self in
    let some : (number : ℕ) → may_stop (old at).listing c.args.stop.now number ≡ (list_any (λ one. number == one) c.as_slice.result.now || list_any (λ one. number == one) c.as_slice-2.result.now) =
    λ number. search (rules, list_any-append (λ one. number == one) c.numbers.inside.ascending.items c.numbers.inside.others.keys) in
    refreshed at c.refresh_tracks-2.new.tracks.items _ (λ number. grind (arith, refreshed_more _ _ _ _ _ _ _ _ _ (c.refresh_tracks.ensures.tracks number) (c.refresh_tracks-2.ensures.tracks number) (some number), c.gtin-gtin.ensures))

pub returns-2 : goal.returns-2
returns-2 c = let at = (goal.at.returns-2 c).After-self in
    let all : (number : ℕ) → may_stop (old at).listing c.args.stop.now number ≡ true = λ number. elim c.in_default.branch [ in_default-via-in-OfProduct-1 w ↦ search rules | in_default-via-in-OfBatch+else-self w ↦ search rules ] in
    refreshed at c.loop-number.tracks.items _ (λ number. grind (arith, common_steps, all number, c.loop-number.invariant.tracks number))

lt-more : (a b : ℕ) → nat_lt a (b + 1) ≡ (nat_lt a b || (a == b))
lt-more a b = grind (arith, nat_tests)

pub loop-number-preserved : goal.loop-number-preserved
loop-number-preserved c = record { count = c.refresh_track.ensures.count ∙ c.loop-number.invariant.count; tracks = λ other. refreshed_more _ _ _ _ _ _ _ _ _ (c.loop-number.invariant.tracks other) (c.refresh_track.ensures.tracks other) (lt-more other c.loop-number.number) }
