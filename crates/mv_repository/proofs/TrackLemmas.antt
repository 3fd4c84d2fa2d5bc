-- Blocks of statuses, over any places and any rule by which a pack goes from one to the next.
use Rattle.mv_repository.proofs.Words.{AllByRecursion, AreBlocks, Block, Cut, IsCovered, IsCut, IsFront, IsSummary, List, PARTIES_LIMIT, PartySet, Placed, [], ap, append-nil, append_assoc, arith, at_drop_more, common_steps, drop, drop-append-le, drop-drop, drop_at, drop_of_length-le, elements, fold, fold-append, get_or, get_or_default, has_party, insert, length, length-append, length-drop, length-take-le, nat_tests, set, subst, suc, sym, take, take-add, take-append-drop, take-append-le, take_at, take_more_set, true, without, zero, ℕ, ◌%◌, ◌++◌, ◌+◌, ◌-◌, ◌<◌, ◌∙◌, ◌∷◌, ◌≡◌, ◌≤◌, AreStopsOf, Ascends, BatchKey, BatchStanding, Carried, Effect, FirstStops, IfSome, IsKept, IsTrack, Item, Kept, KnownPack, LogEntry, None, Option, PackKey, Some, Status, Stops, batch_key, batch_standing, change_effect, cond, cond_both, drop-map, effect_after, effect_from, effect_of, effect_on, entries_before, entry_at, false, filter, first_stops, first_upload, get_or-insert_at, is_active, is_done, is_master, is_same_pack, is_status_of, is_upload_of, known_pack, length-map, life_of, map, message_in, next_by, next_place, no_entry, option_map, option_map_or, ordered, pack_grown, place_of, refl, rules, standing_at, statuses_of, stops_in, take-map, kept_of, true≢false, uploaded_in, not, Bool, passes, stands_before, IsPartitionedBy, IsPartitionPoint, standing_of}
use Rattle.mv_repository.proofs.OrderLemmas.{ordered-ascends, ordered-below, ordered-stand, Stand, still-stand, StandsBeforeAll}
use mathlib.Core.Path.{transport}
use Rattle.mv_repository.proofs.StateLemmas.{entry-stands, map-stands, find-stand, grown-by}
use Rattle.mv_repository.proofs.TableLemmas.{stays_before, counted, find-below, known-before, standing-before, longer, newest, newest-stands, filter-ascends, filter-stand, filter-some, find-none, stops-found, stops-stay, StopsNone, put_place, at-newest}
use Rattle.mv_repository.proofs.KeptLemmas.{same_pack}
use Rattle.mv_repository.specs.declared.effect.Effect.TheVariants as effects

-- lists that are cut
cut-take : {A : Type 0} (n : ℕ) (xs ys : List A) → n ≤ length xs → take n (take n xs ++ ys) ≡ take n xs
cut-take n xs ys l = take_at (take n xs) ys n (length-take-le n xs l)

cut-drop : {A : Type 0} (n : ℕ) (xs ys : List A) → n ≤ length xs → drop n (take n xs ++ ys) ≡ ys
cut-drop n xs ys l = drop_at (take n xs) ys n (length-take-le n xs l)

cut-length : {A : Type 0} (n : ℕ) (xs ys : List A) → n ≤ length xs → n ≤ length (take n xs ++ ys)
cut-length n xs ys l = let t = length-take-le n xs l in let k = length-append (take n xs) ys in omega (arith, t, k)

got-drop : {A : Type 0} (xs : List A) (i : ℕ) (d : A) → i < length xs → drop i xs ≡ get_or xs i d ∷ drop (i + 1) xs
got-drop xs i d l = at_drop_more (λ t. t) xs i d l

pub take-without : (xs : List ℕ) (at n : ℕ) → n ≤ at → at < length xs → take n (without xs at) ≡ take n xs
take-without xs at n h1 h2 = grind (arith, elements)

pub drop-without : (xs : List ℕ) (at n : ℕ) → at ≤ n → at < length xs → drop n (without xs at) ≡ drop (n + 1) xs
drop-without xs at n h1 h2 = grind (arith, elements)

pub without-insert : (xs : List ℕ) (at p : ℕ) → at ≤ length xs → without (insert xs at p) at ≡ xs
without-insert xs at p l = grind (arith, elements)

-- one that is written
set-take : {A : Type 0} (xs more : List A) (i : ℕ) (y : A) → i < length xs → take (i + 1) (set xs i y) ++ more ≡ take i xs ++ y ∷ more
set-take xs more i y l = ap (λ (t : List _). t ++ more) (take_more_set xs i y l) ∙ append_assoc (take i xs) (y ∷ []) more

-- the senders of reverts, of one status more
pub covered-more : (entry : ℕ → Placed) (reverters more : PartySet) (own : List ℕ) (i : ℕ) → i < length own
    → ((other : ℕ) → has_party reverters (other % PARTIES_LIMIT) ≡ true → has_party more (other % PARTIES_LIMIT) ≡ true)
    → IsCovered more (entry (get_or own i 0)) → AllByRecursion (λ place. IsCovered reverters (entry place)) (take i own) → AllByRecursion (λ place. IsCovered more (entry place)) (take (i + 1) own)
covered-more entry reverters more [] i l m new c = absurd (omega arith)
covered-more entry reverters more (x ∷ xs) zero l m new c = (new, tt)
covered-more entry reverters more (x ∷ xs) (suc i) l m new c = let e : suc (i + 1) ≡ suc i + 1 = omega arith in
    subst (λ (n : ℕ). AllByRecursion (λ place. IsCovered more (entry place)) (take n (x ∷ xs))) e (λ a. m (entry x).entry.sender (c.0 a), covered-more entry reverters more xs i (omega arith) m new c.1)

-- a block is worked out again, and what stands behind it
pub record Renewed (entry : ℕ → Placed) (next : ℕ → ℕ → ℕ) (start : ℕ) (bs : List Block) (own : List ℕ) (cut : Cut) (was : ℕ) (old new : Block) (behind : List ℕ) : Type 0 where
  pub blocks : AreBlocks entry next start old.after (drop (cut.number + 1) (set bs cut.number new)) behind
  pub standing : was ≡ fold next old.after behind
  pub front : IsFront entry next start (take (cut.number + 1) (set bs cut.number new)) own new.after behind
  pub by : fold next new.after behind ≡ fold next start own

-- over one rule
module _ (entry : ℕ → Placed) (next : ℕ → ℕ → ℕ) (start : ℕ) (is : (n : ℕ) → (entry n).place ≡ n) where
  -- the statuses behind do not matter
  pub blocks-longer : (by : ℕ) (bs : List Block) (xs ys : List ℕ) → AreBlocks entry next start by bs xs → AreBlocks entry next start by bs (xs ++ ys)
  blocks-longer by [] xs ys h = tt
  blocks-longer by (b ∷ bs) xs ys h = grind (arith, nat_tests, blocks-longer (fold next by (take b.count xs)) bs (drop b.count xs) ys h.3, drop-append-le, length-append, take-append-le)

  -- a cut one block further
  pub cut_next : (bs : List Block) (own : List ℕ) (cut : Cut) (b : Block) → cut.number < length bs → b ≡ get_or bs cut.number b → IsCut entry next start bs own cut
      → IsCut entry next start bs own (record { number = cut.number + 1; start = cut.start + b.count; by = b.after })
  cut_next bs own cut b l read c = grind (arith, nat_tests, append_assoc, cut-drop, cut-length, cut-take, drop-drop, fold-append, got-drop, length-drop, take-add)

  pub fold-cut : (by n : ℕ) (xs : List ℕ) → fold next by xs ≡ fold next (fold next by (take n xs)) (drop n xs)
  fold-cut by n xs = ap (fold next by) (sym (take-append-drop n xs)) ∙ fold-append next by (take n xs) (drop n xs)

  -- a pack goes through one block more
  module _ (bs : List Block) (number before last passed : ℕ) (rest : List ℕ) (b m : Block) (l : number < length bs) (read : b ≡ get_or bs number b) (again : m ≡ get_or bs number m)
      (behind : AreBlocks entry next start before (drop number bs) rest) (by : passed ≡ fold next last (take b.count rest)) where
    same : m ≡ b
    same = again ∙ get_or_default bs number m b l ∙ sym read

    here : AreBlocks entry next start before (b ∷ drop (number + 1) bs) rest
    here = subst (λ (t : List Block). AreBlocks entry next start before t rest) (got-drop bs number b l ∙ ap (λ (x : Block). x ∷ drop (number + 1) bs) (sym read)) behind

    abbrev written : Block
    written = record { count = m.count; of_active = m.of_active; after = passed; reverters = m.reverters }

    pub pass-after : b.after ≡ fold next before (take b.count rest)
    pass-after = here.1 ∙ is (fold next before (take b.count rest))

    pub pass-behind : AreBlocks entry next start b.after (drop (number + 1) (set bs number written)) (drop b.count rest)
    pass-behind = grind (arith, nat_tests, common_steps)

    pub pass-front : (all : List ℕ) → IsFront entry next start (take number bs) all last rest → IsFront entry next start (take (number + 1) (set bs number written)) all passed (drop b.count rest)
    pass-front all front more h = subst (λ (t : List Block). AreBlocks entry next start start t all) (sym (set-take bs more number written l))
        (front (written ∷ more) (subst (λ (x : Block).
        AreBlocks entry next start last (record { count = x.count; of_active = x.of_active; after = passed; reverters = x.reverters } ∷ more) rest) (sym same) (
          here.0,
          by ∙ sym (is (fold next last (take b.count rest))),
          here.2,
          subst (λ (n : ℕ). AreBlocks entry next start n more (drop b.count rest)) by h,
        )))

  -- a status is put in, and is the last
  pub last-blocks : (own : List ℕ) (at : ℕ) (bs : List Block) → at + 1 ≡ length own → AreBlocks entry next start start bs (without own at) → AreBlocks entry next start start bs own
  last-blocks own at bs l h = grind (arith, nat_tests, append-nil, blocks-longer start bs (take at own) (drop at own), drop_of_length-le, take-append-drop)

  -- it stands before others
  module _ (bs : List Block) (own : List ℕ) (at : ℕ) (cut : Cut) (l : at < length own) (le : cut.start ≤ at) (c : IsCut entry next start bs (without own at) cut) where
    -- how the pack stands in front of it
    pub late-before : fold next cut.by (take (at - cut.start) (drop cut.start own)) ≡ fold next start (take at own)
    late-before = let whole : cut.start + (at - cut.start) ≡ at = omega arith in
        grind (arith, nat_tests, fold-append, take-add cut.start (at - cut.start) own, take-without)

    pub late-front : IsFront entry next start (take cut.number bs) own cut.by (drop cut.start own)
    late-front = grind (arith, nat_tests, take-append-drop, take-without)

    pub late-fold : fold next cut.by (drop cut.start own) ≡ fold next start own
    late-fold = ap (λ (n : ℕ). fold next n (drop cut.start own)) (c.by ∙ ap (fold next start) (take-without own at cut.start le l)) ∙ sym (fold-cut start cut.start own)

    module _ (b : Block) (is_in : (cut.number < length bs) × (b ≡ get_or bs cut.number b) × (at < cut.start + b.count)) where
      late-rest : drop b.count (drop cut.start (without own at)) ≡ drop (b.count + 1) (drop cut.start own)
      late-rest = grind (arith, nat_tests, drop-drop, drop-without)

      pub late_within : b.count + 1 ≤ length (drop cut.start own)
      late_within = grind (arith, nat_tests, common_steps)

      -- it is worked out again
      module _ (new : Block) (rest some behind : List ℕ) (r : rest ≡ drop cut.start own) (s : some ≡ take (b.count + 1) rest) (t : behind ≡ drop (b.count + 1) rest)
          (a : new.after ≡ fold next cut.by some) (standing : ℕ) (e : standing ≡ fold next start (without own at)) (n : new.count ≡ b.count + 1) (m : IsSummary entry next start new some) where
        pub renewed : Renewed entry next start bs own cut standing b new behind
        renewed = grind (arith, nat_tests, common_steps, fold-cut, late-fold, late-front, late-rest, late_within, set-take)

-- ---- What is kept of a pack, and worked out by places in a log, is what the log means; and where a status goes

before_get : (log : List LogEntry) (x : Placed) (js : List ℕ) (i d : ℕ) → StandsBeforeAll x (map (entry_at log) js) → i < length js → stands_before x (entry_at log (get_or js i d)) ≡ true
before_get log x [] i d h l = absurd (omega arith)
before_get log x (j ∷ js) zero d h l = h.0
before_get log x (j ∷ js) (suc i) d h l = before_get log x js i d h.1 (omega arith)

pub not_twice : (b c : Bool) → not b ≡ c → b ≡ not c
not_twice b c e = grind (arith, nat_tests)

module _ (log : List LogEntry) (new : ℕ) where
  -- the newest does not pass the entry at a place
  abbrev pub stays_at : ℕ → Bool
  stays_at place = not (passes (entry_at log new) (entry_at log place))

  -- what passes one passes all from there on
  pub parted : (places : List ℕ) → Ascends (map (entry_at log) places) → IsPartitionedBy stays_at places
  parted [] a i j d h l e = absurd (omega arith)
  parted (p ∷ ps) a zero zero d h l e = e
  parted (p ∷ ps) a zero (suc j) d h l e = grind (arith, nat_tests, before_get log (entry_at log p) ps j d a.0)
  parted (p ∷ ps) a (suc i) j d h l e = grind (arith, nat_tests, parted ps a.1 i)

  -- those places whose entries the newest does not pass
  abbrev pub places_before : List ℕ → List ℕ
  places_before places = filter stays_at places

  -- places are cut so that all behind are passed and none in front is
  abbrev pub IsCutFor : List ℕ → ℕ → Type 0
  IsCutFor places k =
      IsPartitionPoint (λ place. passes (entry_at log new) (entry_at log place) ≡ false) (λ place. passes (entry_at log new) (entry_at log place) ≡ true) places k

  -- there the newest goes
  pub place_cut : (places : List ℕ) (k : ℕ) → k ≤ length places → IsCutFor places k
      → (insert places k new ≡ put_place log new places) × (take k places ≡ places_before places)
  place_cut [] k l c = grind (arith, nat_tests)
  place_cut (p ∷ ps) zero l c = grind (arith, nat_tests, place_cut ps zero (omega arith) (λ i d h g. absurd (omega (arith, g)), λ i d h g. c.1 (suc i) d (omega arith) (omega arith)), c.1 0 0 (omega arith) (omega arith))
  place_cut (p ∷ ps) (suc k) l c = grind (arith, nat_tests, place_cut ps k (omega arith) (λ i d h g. c.0 (suc i) d (omega arith) (omega arith), λ i d h g. c.1 (suc i) d (omega arith) (omega arith)), c.0 0 0 (omega arith) (omega arith))

-- by places in a log a pack goes as by the entries there
module _ (log : List LogEntry) (stops : FirstStops) (gtin : List ℕ) (birth : ℕ) where
  abbrev N : ℕ → ℕ → ℕ
  N = next_place log stops gtin birth

  abbrev next : Placed → Placed → Placed
  next = next_by stops gtin (Some (entry_at log birth))

  abbrev IsThere : Placed → Type 0
  IsThere placed = entry_at log placed.place ≡ placed

  next-at : (by x : ℕ) → entry_at log (N by x) ≡ next (entry_at log by) (entry_at log x)
  next-at by x =
      cond_both (is_done (effect_on stops gtin (entry_at log birth) (entry_at log by) (entry_at log x))) (cond (is_active (standing_of (message_in (entry_at log x).entry.item))) (entry_at log birth) (entry_at log x)) (entry_at log by) IsThere
      (λ d. cond_both (is_active (standing_of (message_in (entry_at log x).entry.item))) (entry_at log birth) (entry_at log x) IsThere (λ a. refl) (λ a. refl)) (λ d. refl)

  fold-at : (by : ℕ) (xs : List ℕ) → entry_at log (fold N by xs) ≡ fold next (entry_at log by) (map (entry_at log) xs)
  fold-at by [] = refl
  fold-at by (x ∷ xs) = fold-at (N by x) xs ∙ ap (λ (placed : Placed). fold next placed (map (entry_at log) xs)) (next-at by x)

  covered-at : (reverters : PartySet) (xs : List ℕ)
      → AllByRecursion (λ place. IsCovered reverters (entry_at log place)) xs ≡ AllByRecursion (λ placed. IsCovered reverters placed) (map (entry_at log) xs)
  covered-at reverters [] = refl
  covered-at reverters (x ∷ xs) = λ i. IsCovered reverters (entry_at log x) × covered-at reverters xs i

  blocks-at : (by : ℕ) (bs : List Block) (xs : List ℕ)
      → AreBlocks (entry_at log) N birth by bs xs ≡ AreBlocks (λ placed. placed) next (entry_at log birth) (entry_at log by) bs (map (entry_at log) xs)
  blocks-at by [] xs = refl
  blocks-at by (one ∷ bs) xs = let others = blocks-at (fold N by (take one.count xs)) bs (drop one.count xs)
      ∙ (λ i. AreBlocks (λ placed. placed) next (entry_at log birth) (behind by i) bs (sym (drop-map (entry_at log) one.count xs) i)) in
      λ i. (one.count ≤ sym (length-map xs (entry_at log)) i) × (one.after ≡ (behind by i).place) × ((one.of_active ≡ (behind birth i).place) × covered i) × others i
    where
      behind : (y : ℕ) → entry_at log (fold N y (take one.count xs)) ≡ fold next (entry_at log y) (take one.count (map (entry_at log) xs))
      behind y = fold-at y (take one.count xs) ∙ ap (fold next (entry_at log y)) (sym (take-map (entry_at log) one.count xs))

      covered : AllByRecursion (λ place. IsCovered one.reverters (entry_at log place)) (take one.count xs) ≡ AllByRecursion (λ placed. IsCovered one.reverters placed) (take one.count (map (entry_at log) xs))
      covered = covered-at one.reverters (take one.count xs) ∙ ap (AllByRecursion (λ placed. IsCovered one.reverters placed)) (sym (take-map (entry_at log) one.count xs))

-- so it does by entries that stand in the log
module _ (log : List LogEntry) (stops : FirstStops) (gtin : List ℕ) (birth : Placed) (own : List Placed) (there : get_or log birth.place no_entry ≡ birth.entry) (stand : Stand log own) where
  pub fold-own : entry_at log (fold (next_place log stops gtin birth.place) birth.place (map place_of own)) ≡ fold (next_by stops gtin (Some birth)) birth own
  fold-own = fold-at log stops gtin birth.place birth.place (map place_of own)
      ∙ (λ i. fold (next_by stops gtin (Some (entry-stands log birth there i))) (entry-stands log birth there i) (map-stands log own stand i))

  pub fold-stands : entry_at log (fold (next_by stops gtin (Some birth)) birth own).place ≡ fold (next_by stops gtin (Some birth)) birth own
  fold-stands = ap (λ (placed : Placed). entry_at log placed.place) (sym fold-own) ∙ fold-own

  blocks-own : (bs : List Block) → AreBlocks (entry_at log) (next_place log stops gtin birth.place) birth.place birth.place bs (map place_of own)
      ≡ AreBlocks (λ placed. placed) (next_by stops gtin (Some birth)) birth birth bs own
  blocks-own bs = blocks-at log stops gtin birth.place birth.place bs (map place_of own)
      ∙ (λ i. AreBlocks (λ placed. placed) (next_by stops gtin (Some (entry-stands log birth there i))) (entry-stands log birth there i) (entry-stands log birth there i) bs (map-stands log own stand i))

-- what is kept of a pack is worked out, also by a log that begins with its own
module _ (whole log : List LogEntry) (tables : Stops) (pack : PackKey) (stand : Stand whole (ordered log)) (stops : AreStopsOf log tables) where
  abbrev own : List Placed
  own = statuses_of pack (ordered log)

  own-stand : Stand whole own
  own-stand = filter-stand (λ placed. is_status_of pack placed.entry.item) whole (ordered log) stand

  found : stops_in whole tables ≡ first_stops (ordered log)
  found = stops-found whole log tables stand stops

  by-same : (birth : Option Placed) → IfSome birth (λ y. get_or whole y.place no_entry ≡ y.entry)
      → option_map_or (λ b. fold (next_place whole (stops_in whole tables) pack.gtin b) b (map place_of own)) (option_map place_of birth) 0
      ≡ option_map_or (λ b. (fold (next_by (first_stops (ordered log)) pack.gtin birth) b own).place) birth 0
  by-same None s = refl
  by-same (Some y) s = grind (arith, nat_tests, found, fold-own whole (first_stops (ordered log)) pack.gtin y own s own-stand)

  blocks-same : (birth : Option Placed) → IfSome birth (λ y. get_or whole y.place no_entry ≡ y.entry) → (bs : List Block)
      → IfSome (option_map place_of birth) (λ b. AreBlocks (entry_at whole) (next_place whole (stops_in whole tables) pack.gtin b) b b bs (map place_of own))
      ≡ IfSome birth (λ b. AreBlocks (λ placed. placed) (next_by (first_stops (ordered log)) pack.gtin birth) b b bs own)
  blocks-same None s bs = refl
  blocks-same (Some y) s bs = (λ i. AreBlocks (entry_at whole) (next_place whole (found i) pack.gtin y.place) y.place y.place bs (map place_of own)) ∙ blocks-own whole (first_stops (ordered log)) pack.gtin y own s own-stand bs

  there : IfSome (first_upload pack (ordered log)) (λ y. get_or whole y.place no_entry ≡ y.entry)
  there = find-stand (λ placed. is_upload_of pack placed.entry.item) whole (ordered log) stand

  kept-same : (kept : Kept) → kept.birth ≡ option_map place_of (first_upload pack (ordered log)) → kept.statuses ≡ map place_of own
      → IfSome kept.birth (λ b. AreBlocks (entry_at whole) (next_place whole (stops_in whole tables) pack.gtin b) b b kept.blocks kept.statuses)
      ≡ IfSome (first_upload pack (ordered log)) (λ b. AreBlocks (λ placed. placed) (life_of pack log).next b b kept.blocks own)
  kept-same kept b s = (λ i. IfSome (b i) (λ one. AreBlocks (entry_at whole) (next_place whole (stops_in whole tables) pack.gtin one) one one kept.blocks (s i)))
      ∙ blocks-same (first_upload pack (ordered log)) there kept.blocks

  pub track-worked : (kept : Kept) → IsKept (life_of pack log) kept → IsTrack whole (stops_in whole tables) pack.gtin kept
  track-worked kept k = record { by = grind (arith, by-same (first_upload pack (ordered log)) there); blocks = transport (sym (kept-same kept (ap (λ (one : Kept). one.birth) k.bare) (ap (λ (one : Kept). one.statuses) k.bare))) k.blocks }

  pub track-means : (kept : Kept) → kept.birth ≡ option_map place_of (first_upload pack (ordered log)) → kept.statuses ≡ map place_of own
      → IsTrack whole (stops_in whole tables) pack.gtin kept → IsKept (life_of pack log) kept
  track-means kept b s t = record { bare = grind (arith, by-same (first_upload pack (ordered log)) there); blocks = transport (kept-same kept b s) t.blocks }

-- and what is worked out by its own log is what is to be kept
pub track-is : (log : List LogEntry) (tables : Stops) (pack : PackKey) (kept : Kept) → AreStopsOf log tables
    → kept.birth ≡ option_map place_of (first_upload pack (ordered log)) → kept.statuses ≡ map place_of (statuses_of pack (ordered log))
    → IsTrack log (stops_in log tables) pack.gtin kept → IsKept (life_of pack log) kept
track-is log tables pack kept stops = track-means log log tables pack (ordered-stand log) stops kept

-- a status is of one pack, and no other thing
pub status-form : (pack : PackKey) (item : Item) → is_status_of pack item ≡ true
    → ((other : PackKey) → (is_upload_of other item ≡ false) × (is_status_of other item ≡ is_same_pack pack other)) × StopsNone item × ((gtin : List ℕ) → is_master gtin item ≡ false) × (uploaded_in item ≡ [])
status-form pack item h1 = search rules

-- what is kept of a pack, once a status of it is put in
pub track-status : (log : List LogEntry) (entry : LogEntry) (tables : Stops) (pack : PackKey) (kept : Kept) → AreStopsOf log tables → is_status_of pack entry.item ≡ true
    → kept.birth ≡ (kept_of (life_of pack log)).birth → kept.statuses ≡ put_place (longer log entry) (length log) (kept_of (life_of pack log)).statuses
    → IsTrack (longer log entry) (stops_in (longer log entry) tables) pack.gtin kept → IsKept (life_of pack (longer log entry)) kept
track-status log entry tables pack kept stops own b p w = grind (arith, nat_tests, filter-some, find-none, stops-stay, track-is)

-- the effect of a status at a place, behind those in front of it
abbrev pub effect_at : List LogEntry → FirstStops → List ℕ → Option ℕ → List ℕ → ℕ → Effect
effect_at log stops gtin birth front place =
    option_map_or (λ b. effect_on stops gtin (entry_at log b) (entry_at log (fold (next_place log stops gtin b) b front)) (entry_at log place)) birth effects.Unknown

front-places : (log : List LogEntry) (x : Placed) (xs : List Placed) → get_or log x.place no_entry ≡ x.entry → Stand log xs
    → places_before log x.place (map place_of xs) ≡ map place_of (filter (stays_before x) xs)
front-places log x [] e s = refl
front-places log x (y ∷ ys) e s = grind (arith, nat_tests, front-places log x ys e s.1)

-- a pack as it stands behind those that stand before the newest entry
module _ (log : List LogEntry) (entry : LogEntry) (pack : PackKey) (xs : List Placed) (stand : Stand (longer log entry) xs) where
  abbrev x : Placed
  x = newest log entry

  abbrev S : FirstStops
  S = first_stops (ordered log)

  abbrev whole : List LogEntry
  whole = longer log entry

  abbrev effect : Option KnownPack → Effect
  effect known = option_map_or (effect_from (standing_at S x) entry.sender (message_in entry.item) pack.gtin) known effects.Unknown

  effect-front : (birth : Option Placed) → IfSome birth (λ y. get_or whole y.place no_entry ≡ y.entry) → IfSome birth (λ y. y.place < length log)
      → effect_at whole S pack.gtin (option_map place_of birth) (map place_of xs) (length log) ≡ effect (pack_grown S pack (counted x birth) xs)
  effect-front None b l = refl
  effect-front (Some birth) b l = (λ i. effect_on S pack.gtin (entry-stands whole birth b i) (fold-own whole S pack.gtin birth xs b stand i) (entry-stands whole x (newest-stands log entry) i)) ∙ front birth l
    where
      front : (birth : Placed) → birth.place < length log → effect_on S pack.gtin birth (fold (next_by S pack.gtin (Some birth)) birth xs) x ≡ effect (pack_grown S pack (counted x (Some birth)) xs)
      front birth l = grind (arith, nat_tests, grown-by S pack birth xs)

-- it is what the status does
pub status-effect : (log : List LogEntry) (entry : LogEntry) (tables : Stops) (pack : PackKey) (front : List ℕ) → AreStopsOf log tables → is_status_of pack entry.item ≡ true
    → front ≡ places_before (longer log entry) (length log) (kept_of (life_of pack log)).statuses
    → effect_at (longer log entry) (stops_in (longer log entry) tables) pack.gtin (kept_of (life_of pack log)).birth front (length log) ≡ effect_of log entry
status-effect log entry tables pack front stops own p = let whole = longer log entry in
    let x = newest log entry in
    let mine = statuses_of pack (ordered log) in
    let birth = first_upload pack (ordered log) in
    let found : stops_in whole tables ≡ first_stops (ordered log) = stops-found whole log tables (still-stand log entry) stops in
    let stand : Stand whole mine = filter-stand (λ placed. is_status_of pack placed.entry.item) whole (ordered log) (still-stand log entry) in
    let places : front ≡ map place_of (filter (stays_before x) mine) = p ∙ front-places whole x mine (newest-stands log entry) stand in
    (λ i. effect_at whole (found i) pack.gtin (option_map place_of birth) (places i) (length log))
    ∙ effect-front log entry pack (filter (stays_before x) mine) (filter-stand (stays_before x) whole mine stand) birth
    (find-stand (λ placed. is_upload_of pack placed.entry.item) whole (ordered log) (still-stand log entry))
    (find-below (λ placed. is_upload_of pack placed.entry.item) (length log) (ordered log) (ordered-below log))
    ∙ ap (effect log entry pack (filter (stays_before x) mine) (filter-stand (stays_before x) whole mine stand)) (sym (known-before log entry pack))
    ∙ by entry.item own
  where
    by : (item : Item) → is_status_of pack item ≡ true
        → option_map_or (effect_from (standing_at (first_stops (ordered log)) (newest log entry)) entry.sender (message_in item) pack.gtin) (known_pack pack (entries_before log entry)) effects.Unknown
        ≡ effect_after (entries_before log entry) entry.sender item
    by (Carried k stamp (Status key to user at)) e =
        ap (λ (f : BatchKey → BatchStanding). option_map_or (λ (held : KnownPack). change_effect held (f (batch_key pack.gtin held.batch)) to entry.sender user at) (known_pack pack (entries_before log entry)) effects.Unknown) (sym (standing-before log entry))
        ∙ ap (λ (q : PackKey). option_map_or (λ (held : KnownPack). change_effect held (batch_standing (entries_before log entry) (batch_key q.gtin held.batch)) to entry.sender user at) (known_pack q (entries_before log entry)) effects.Unknown) (sym (same_pack key pack e))
    by _ e = absurd (true≢false (sym e))

-- a status that is put in
module _ (whole : List LogEntry) (place : ℕ) (tables : Stops) (pack : PackKey) (old : Kept) (l : length whole ≡ place + 1) (stops : AreStopsOf (take place whole) tables)
    (kept : IsKept (life_of pack (take place whole)) old) where
  abbrev log : List LogEntry
  log = take place whole

  abbrev entry : LogEntry
  entry = get_or whole place no_entry

  pub put-ascend : Ascends (map (entry_at whole) old.statuses)
  put-ascend = at-newest whole place l (λ w n. Ascends (map (entry_at w) old.statuses)) (grind (arith, nat_tests, filter-ascends, filter-stand, map-stands, ordered-ascends, still-stand log entry))

  -- what is kept is worked out by the longer log too
  pub put-track : IsTrack whole (stops_in whole tables) pack.gtin old
  put-track = at-newest whole place l (λ w n. IsTrack w (stops_in w tables) pack.gtin old) (track-worked (longer log entry) log tables pack (still-stand log entry) stops old kept)

  abbrev onward : ℕ → ℕ → ℕ → ℕ
  onward = next_place whole (stops_in whole tables) pack.gtin

  -- what is kept then
  abbrev pub put : List ℕ → ℕ → List Block → Kept
  put own by blocks = record { birth = old.birth; statuses = own; by = by; blocks = blocks }

  -- without the status it is as it was
  pub put-late : (birth at : ℕ) (own : List ℕ) → old.birth ≡ Some birth → at ≤ length old.statuses → own ≡ insert old.statuses at place
      → AreBlocks (entry_at whole) (onward birth) birth birth old.blocks (without own at) × (old.by ≡ fold (onward birth) birth (without own at))
  put-late birth at own b within o =
      let same : old.statuses ≡ without own at = sym (without-insert old.statuses at place within) ∙ ap (λ (l : List ℕ). without l at) (sym o) in (
        subst (AreBlocks (entry_at whole) (onward birth) birth birth old.blocks) same (subst (λ (o : Option ℕ). IfSome o (λ one. AreBlocks (entry_at whole) (onward one) one one old.blocks old.statuses)) b put-track.blocks),
        subst (λ (o : Option ℕ). old.by ≡ option_map_or (λ one. fold (onward one) one old.statuses) o 0) b put-track.by ∙ ap (fold (onward birth) birth) same,
      )

  put-status : (at by : ℕ) (blocks : List Block) (effect : Effect) (own : List ℕ) → is_status_of pack entry.item ≡ true → at ≤ length old.statuses → IsCutFor whole place old.statuses at
      → own ≡ insert old.statuses at place → IsTrack whole (stops_in whole tables) pack.gtin (put own by blocks)
      → effect ≡ effect_at whole (stops_in whole tables) pack.gtin old.birth (take at own) place → IsKept (life_of pack whole) (put own by blocks) × (effect ≡ effect_of log entry)
  put-status at by blocks effect own is =
      at-newest whole place l (λ w n. at ≤ length old.statuses → IsCutFor w n old.statuses at → own ≡ insert old.statuses at n → IsTrack w (stops_in w tables) pack.gtin (put own by blocks)
      → effect ≡ effect_at w (stops_in w tables) pack.gtin old.birth (take at own) n → IsKept (life_of pack w) (put own by blocks) × (effect ≡ effect_of log entry))
      (λ within cut o worked done.
      grind (arith, nat_tests, length-take-le, place_cut (longer log entry) (length log) old.statuses at within cut, take_at, status-effect log entry tables pack (take at own) stops is, track-status log entry tables pack (put own by blocks) stops is))

  pub put-known : (birth at by : ℕ) (blocks : List Block) (effect : Effect) (own : List ℕ) → is_status_of pack entry.item ≡ true → at ≤ length old.statuses → IsCutFor whole place old.statuses at
      → own ≡ insert old.statuses at place → old.birth ≡ Some birth → by ≡ fold (onward birth) birth own → AreBlocks (entry_at whole) (onward birth) birth birth blocks own
      → effect ≡ effect_on (stops_in whole tables) pack.gtin (entry_at whole birth) (entry_at whole (fold (onward birth) birth (take at own))) (entry_at whole (get_or own at 0))
      → IsKept (life_of pack whole) (put own by blocks) × (effect ≡ effect_of log entry)
  put-known birth at by blocks effect own is within cut o some stands are done =
      let there : get_or own at 0 ≡ place = grind (arith, nat_tests, get_or-insert_at) in
      put-status at by blocks effect own is within cut o (record { by = grind arith; blocks = grind arith }) (grind arith)

  -- where no upload names the pack it does nothing
  pub put-unknown : (at : ℕ) (own : List ℕ) → is_status_of pack entry.item ≡ true → at ≤ length old.statuses → IsCutFor whole place old.statuses at → own ≡ insert old.statuses at place
      → old.birth ≡ None → IsKept (life_of pack whole) (put own old.by old.blocks) × (effects.Unknown ≡ effect_of log entry)
  put-unknown at own is within cut o none =
      put-status at old.by old.blocks effects.Unknown own is within cut o (record { by = grind (arith, put-track); blocks = grind arith }) (grind arith)
