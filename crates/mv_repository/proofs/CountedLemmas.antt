-- What is kept of a pack says what it is, and whether it is active; and how many packs of a table are counted.
use Rattle.mv_repository.proofs.Words.{count_by-le-length, length-filter, All-contains_itself, recursion_from_All, AllByRecursion, AreSlots, AreTablesOf, keyed, length-append, length-keys_of, shelf_by, subst, ◌+◌, Bool, IsDistinct, IsDistinct-head, IsDistinct-keys_filter, IsDistinct-tail, IsEquivalence, Kept, List, LogEntry, None, Option, PackKey, ShelfParts, Slot, Some, Tables, [], ap, arith, bytes_eq, cond, distinct_count, distinct_count-le, false, filter, filter-append, flat_map, get_or, is_member, is_member-filter, is_same_pack, is_some, is_some-lookup, kept_by, kept_in, keys_of, length, length-from_keys, lookup, lookup-filter-values, map, min, nat_list_eq_equiv, nat_tests, no_shelf, nothing_kept, option_filter, option_map, option_or, pack_key, refl, rules, same_text, serial_of, shelf_of, sym, kept_of, life_of, true, unwrap_or, uploaded_packs, ℕ, ◌++◌, ◌-◌, ◌^◌, ◌∙◌, ◌∷◌, ◌≡◌, absent_from_lookup, ◌==◌, ◌⊎◌, cond_both, counts_of, IfSome, fold, inl, inr, option_map_or, Held, Placed, ordered, is_active, is_done, pack_state, held_of, known_at, effect_on, next_by, FirstStops, first_stops, place_of, no_entry, is_upload_of, is_status_of, statuses_of, pack_grown, option_and_then, entry_at, message_in, standing_of}
use Rattle.mv_repository.proofs.KeptLemmas.{same_pack, pack-self, pack-sym}
use Rattle.mv_repository.proofs.UploadLemmas.{uploaded-found}
use Rattle.std.proofs.lemmas.Map.Views.{lookup-from_Contains}
use Rattle.mv_repository.proofs.OrderLemmas.{Stand, find-true, ordered-ascends, ordered-stand}
use Rattle.mv_repository.proofs.StateLemmas.{known-grown, entry-stands, find-stand, grown-by}
use Rattle.mv_repository.proofs.TableLemmas.{filter-stand}
use Rattle.mv_repository.proofs.TrackLemmas.{fold-stands}

-- a pack that is kept so is counted: any one that is held, or of these each that is active, which stands by its upload
abbrev is_counted : Bool → Kept → Bool
is_counted true kept = is_some kept.birth
is_counted false kept = option_map_or (λ birth. birth == kept.by) kept.birth false

-- how many packs are counted of these slots, and on these shelves
abbrev pub slots_counted : Bool → List Kept → List Slot → ℕ
slots_counted any tracks slots = length (filter (λ slot. is_counted any (kept_by tracks (Some slot))) slots)

abbrev pub slots_in : Bool → List (List ℕ × ShelfParts) → ℕ
slots_in any [] = 0
slots_in any (shelf ∷ rest) = slots_counted any shelf.1.tracks shelf.1.table.slots + slots_in any rest

-- a count, with the packs on the shelves that are left, has all, or what 64 bits hold
abbrev pub AreCounted : Bool → ℕ → List (List ℕ × ShelfParts) → List (List ℕ × ShelfParts) → Type 0
AreCounted any count left all = min (count + slots_in any left) (2 ^ 64 - 1) ≡ min (slots_in any all) (2 ^ 64 - 1)

pack-equiv : IsEquivalence is_same_pack
pack-equiv = search (rules, pack-sym)

module _ {K X : Type 0} where
  -- a key that differs from all of these is not among them
  absent : (test : K → Bool) (es : List (K × X)) → AllByRecursion (λ y. test y ≡ false) (keys_of es) → lookup test es ≡ None
  absent test [] h = refl
  absent test (e ∷ es) h = grind (arith, nat_tests, absent test es h.1)

  lookup-append : (test : K → Bool) (es fs : List (K × X)) → lookup test (es ++ fs) ≡ option_or (lookup test es) (lookup test fs)
  lookup-append test [] fs = refl
  lookup-append test (e ∷ es) fs = grind (arith, nat_tests, lookup-append test es fs)

distinct-append : (es fs : List (PackKey × Kept)) → IsDistinct is_same_pack (keys_of es) → IsDistinct is_same_pack (keys_of fs)
    → ((q : PackKey) → is_some (lookup (is_same_pack q) es) ≡ true → lookup (is_same_pack q) fs ≡ None) → IsDistinct is_same_pack (keys_of (es ++ fs))
unfolding IsDistinct
distinct-append [] fs d e h = e
distinct-append (one ∷ es) fs d e h = let own = absent (is_same_pack one.0) es d.0 in
    let rest = distinct-append es fs d.1 e (λ q m. h q (grind (arith, nat_tests))) in
    (absent_from_lookup (is_same_pack one.0) (es ++ fs) (grind (arith, nat_tests, h one.0, lookup-append, own, pack-self)), rest)

module _ (log : List LogEntry) where
  -- the packs on a shelf, and on all, each with what is kept of it
  abbrev packs_of : List ℕ → ShelfParts → List Slot → List (PackKey × Kept)
  packs_of gtin parts slots = map (λ slot. (pack_key gtin (serial_of log parts.table.names slot), kept_by parts.tracks (Some slot))) slots

  abbrev packs_in : List (List ℕ × ShelfParts) → List (PackKey × Kept)
  packs_in shelves = flat_map (λ shelf. packs_of shelf.0 shelf.1 shelf.1.table.slots) shelves

  -- these slots of a shelf by their serial numbers
  abbrev keyed_on : ShelfParts → List Slot → List (List ℕ × Slot)
  keyed_on parts slots = keyed log parts.table.names slots

  shelf-found : (gtin : List ℕ) (parts : ShelfParts) (slots : List Slot) (q : PackKey) → lookup (is_same_pack q) (packs_of gtin parts slots)
      ≡ cond (bytes_eq q.gtin gtin) (option_map (λ slot. kept_by parts.tracks (Some slot)) (lookup (bytes_eq q.serial) (keyed_on parts slots))) None
  shelf-found gtin parts [] q = grind (arith, nat_tests)
  shelf-found gtin parts (slot ∷ slots) q = grind (arith, nat_tests, shelf-found gtin parts slots q)

  shelf-distinct : (gtin : List ℕ) (parts : ShelfParts) (slots : List Slot) → IsDistinct bytes_eq (keys_of (keyed_on parts slots))
      → IsDistinct is_same_pack (keys_of (packs_of gtin parts slots))
  unfolding IsDistinct
  shelf-distinct gtin parts [] d = tt
  shelf-distinct gtin parts (slot ∷ slots) d = let serial = serial_of log parts.table.names slot in
      let none = absent (bytes_eq serial) (keyed_on parts slots) d.0 in
      let away = absent_from_lookup (is_same_pack (pack_key gtin serial)) (packs_of gtin parts slots) (grind (arith, nat_tests, none, shelf-found)) in
      (away, shelf-distinct gtin parts slots d.1)

  -- a product with no shelf has no pack
  elsewhere : (shelves : List (List ℕ × ShelfParts)) (q : PackKey) → lookup (bytes_eq q.gtin) shelves ≡ None
      → lookup (is_same_pack q) (packs_in shelves) ≡ None
  elsewhere [] q e = refl
  elsewhere (s ∷ rest) q e = grind (arith, nat_tests, elsewhere rest q, lookup-append, shelf-found)

  later : (s : List ℕ × ShelfParts) (rest : List (List ℕ × ShelfParts)) → IsDistinct bytes_eq (s.0 ∷ keys_of rest) → (gtin : List ℕ)
      → bytes_eq gtin s.0 ≡ true → lookup (bytes_eq gtin) rest ≡ None
  later s rest d gtin e = let none = absent (bytes_eq s.0) rest (IsDistinct-head bytes_eq s.0 (keys_of rest) d) in
      subst (λ (one : List ℕ). lookup (bytes_eq one) rest ≡ None) (sym (same_text gtin s.0 (sym e))) none

  packs-found : (shelves : List (List ℕ × ShelfParts)) → IsDistinct bytes_eq (keys_of shelves) → (q : PackKey)
      → unwrap_or (lookup (is_same_pack q) (packs_in shelves)) nothing_kept ≡ kept_in (shelf_by log (shelf_of q.gtin shelves)) q.serial
  packs-found [] d q = refl
  packs-found (s ∷ rest) d q = let behind = packs-found rest (IsDistinct-tail bytes_eq s.0 (keys_of rest) d) q in
      grind (arith, nat_tests, behind, elsewhere rest q, later s rest d q.gtin, lookup-append, shelf-found)

  packs-distinct : (shelves : List (List ℕ × ShelfParts)) → IsDistinct bytes_eq (keys_of shelves)
      → AllByRecursion (λ shelf. AreSlots log shelf.1.table) shelves → IsDistinct is_same_pack (keys_of (packs_in shelves))
  unfolding IsDistinct
  packs-distinct [] d are = tt
  packs-distinct (s ∷ rest) d are = let own = shelf-distinct s.0 s.1 s.1.table.slots are.0.distinct in
      distinct-append (packs_of s.0 s.1 s.1.table.slots) (packs_in rest) own (packs-distinct rest d.1 are.1)
      (λ q m. elsewhere rest q (later s rest d q.gtin (grind (arith, nat_tests, shelf-found))))

  module _ (any : Bool) where
    -- those of these packs that are counted: as many as slots are
    abbrev shown : List (PackKey × Kept) → List (PackKey × Kept)
    shown packs = filter (λ pack. is_counted any pack.1) packs

    counted-of : (gtin : List ℕ) (parts : ShelfParts) (slots : List Slot) → length (shown (packs_of gtin parts slots))
        ≡ slots_counted any parts.tracks slots
    counted-of gtin parts [] = refl
    counted-of gtin parts (slot ∷ slots) = grind (arith, nat_tests, counted-of gtin parts slots)

    counted-in : (shelves : List (List ℕ × ShelfParts)) → length (shown (packs_in shelves)) ≡ slots_in any shelves
    counted-in [] = refl
    counted-in (s ∷ rest) = grind (arith, nat_tests, counted-in rest, counted-of, filter-append, length-append)

    -- a pack is counted by what a log keeps of it
    same-counted : (tables : Tables) (q : PackKey) (o : Option Kept) → AreTablesOf log tables
        → unwrap_or o nothing_kept ≡ kept_in (shelf_by log (shelf_of q.gtin tables.shelves.entries)) q.serial
        → is_some (option_filter (is_counted any) o) ≡ is_counted any (kept_of (life_of q log))
    same-counted tables q o are e = grind (arith, nat_tests, ((are.shelves q.gtin).shelf.packs q.serial).kept.bare)

    -- the packs that are counted shelf by shelf are these, each once, where these are those that a log counts
    all-counted : (tables : Tables) (xs : List PackKey) → AreTablesOf log tables → IsDistinct bytes_eq (keys_of tables.shelves.entries)
        → ((q : PackKey) → is_member is_same_pack xs q ≡ is_counted any (kept_of (life_of q log))) → slots_in any tables.shelves.entries ≡ distinct_count is_same_pack xs
    all-counted tables xs are d these = let shelves = tables.shelves.entries in
        let distinct = packs-distinct shelves d (recursion_from_All (λ shelf. AreSlots log shelf.1.table) shelves (λ k s l.
        let own = get_or shelves k s in
        let there = lookup-from_Contains nat_list_eq_equiv own.0 own.1 shelves d (All-contains_itself shelves k s l) in
        subst (λ (o : Option ShelfParts). AreSlots log (unwrap_or o no_shelf).table) there (are.shelves own.0).slots)) in
        let same : (q : PackKey) → is_member is_same_pack (keys_of (shown (packs_in shelves))) q ≡ is_member is_same_pack xs q =
        λ q. sym (is_some-lookup (is_same_pack q) (shown (packs_in shelves)))
        ∙ ap is_some (lookup-filter-values pack-equiv (is_counted any) q (packs_in shelves) distinct)
        ∙ same-counted tables q (lookup (is_same_pack q) (packs_in shelves)) are (packs-found shelves d q)
        ∙ sym (these q) in
        let once = IsDistinct-keys_filter is_same_pack (λ pack. is_counted any pack.1) (packs_in shelves) distinct in
        sym (counted-in shelves) ∙ sym (length-keys_of (shown (packs_in shelves)))
        ∙ length-from_keys pack-equiv (keys_of (shown (packs_in shelves))) xs once same

-- a pack is held, and active
abbrev is_held_active : Option Held → Bool
is_held_active held = option_map_or (λ (pack : Held). is_active pack.standing) held false

-- a pack stands by its upload, or by a status that is no revert
abbrev Settled : Placed → Placed → Type 0
Settled birth by = (by ≡ birth) ⊎ (is_active (standing_of (message_in by.entry.item)) ≡ false)

fold-settled : (stops : FirstStops) (gtin : List ℕ) (birth by : Placed) (xs : List Placed) → Settled birth by → Settled birth (fold (next_by stops gtin (Some birth)) by xs)
fold-settled stops gtin birth by [] s = s
fold-settled stops gtin birth by (x ∷ xs) s = grind (arith, nat_tests, fold-settled stops gtin birth (next_by stops gtin (Some birth) by x) xs (cond_both (is_done (effect_on stops gtin birth by x)) (cond (is_active (standing_of (message_in x.entry.item))) birth x) by (Settled birth) (λ d. cond_both (is_active (standing_of (message_in x.entry.item))) birth x (Settled birth) (λ a. inl refl) inr) (λ d. s)))

module _ (log : List LogEntry) (pack : PackKey) where
  abbrev own : List Placed
  own = statuses_of pack (ordered log)

  abbrev S : FirstStops
  S = first_stops (ordered log)

  own-stand : Stand log own
  own-stand = filter-stand (λ placed. is_status_of pack placed.entry.item) log (ordered log) (ordered-stand log)

  abbrev last : Option Placed → ℕ
  last birth = option_map_or (λ b. (fold (next_by S pack.gtin birth) b own).place) birth 0

  of-birth : (birth : Option Placed) → IfSome birth (λ x. get_or log x.place no_entry ≡ x.entry)
      → option_and_then (λ (first : ℕ). option_map held_of (known_at (entry_at log first) (entry_at log (last birth)))) (option_map place_of birth) ≡ option_map held_of (pack_grown S pack birth own)
  of-birth None s = refl
  of-birth (Some y) s = (λ i. option_map held_of (known_at (entry-stands log y s i) (fold-stands log S pack.gtin y own s own-stand i)))
      ∙ ap (option_map held_of) (sym (grown-by S pack y own))

  -- a pack is what stands by its last step
  pub track_state : option_and_then (λ (birth : ℕ). option_map held_of (known_at (entry_at log birth) (entry_at log (kept_of (life_of pack log)).by))) (kept_of (life_of pack log)).birth ≡ pack_state pack log
  track_state = grind (arith, nat_tests, find-stand, known-grown, of-birth, ordered-ascends, ordered-stand)

  active-birth : (birth : Option Placed) → IfSome birth (λ x. get_or log x.place no_entry ≡ x.entry) → IfSome birth (λ x. is_upload_of pack x.entry.item ≡ true)
      → option_map_or (λ (first : ℕ). first == last birth) (option_map place_of birth) false ≡ is_held_active (option_map held_of (pack_grown S pack birth own))
  active-birth None s u = refl
  active-birth (Some y) s u = grind (arith, nat_tests, fold-settled S pack.gtin y y own (inl refl), fold-stands log S pack.gtin y own s own-stand, grown-by)

  -- it is active where it stands by its upload
  track-active : is_counted false (kept_of (life_of pack log)) ≡ is_held_active (pack_state pack log)
  track-active = grind (arith, nat_tests, active-birth, find-stand, find-true (λ placed. is_upload_of pack placed.entry.item) (ordered log), known-grown, ordered-ascends, ordered-stand)

  active-member : is_member is_same_pack (filter (λ one. is_held_active (pack_state one log)) (uploaded_packs log)) pack ≡ is_counted false (kept_of (life_of pack log))
  active-member = is_member-filter pack-equiv (λ one. is_held_active (pack_state one log)) pack (λ y e i. is_held_active (pack_state (same_pack pack y e i) log)) (uploaded_packs log)
      ∙ grind (arith, nat_tests, track-active, uploaded-found log pack)

-- the packs that a log has by its tables, where no shelf is left: no more than 64 bits hold
pub counts-whole : (log : List LogEntry) (tables : Tables) (held active : ℕ) (left : List (List ℕ × ShelfParts)) → AreTablesOf log tables → IsDistinct bytes_eq (keys_of tables.shelves.entries)
    → left ≡ [] → AreCounted true held left tables.shelves.entries → AreCounted false active left tables.shelves.entries → ◌≡◌ {A = ℕ × ℕ} (held, active) ((counts_of log).packs, (counts_of log).active)
counts-whole log tables held active left are d none h a = let all = all-counted log true tables (uploaded_packs log) are d (λ q. sym (uploaded-found log q)) in
    let up = all-counted log false tables (filter (λ pack. is_held_active (pack_state pack log)) (uploaded_packs log)) are d (active-member log) in
    let packs : held ≡ (counts_of log).packs = grind (arith, nat_tests, are.few.0, are.few.1, all, distinct_count-le) in
    let stand : active ≡ (counts_of log).active = grind (arith, nat_tests, are.few.0, are.few.1, up, count_by-le-length, distinct_count-le, length-filter) in
    λ i. (packs i, stand i)
