-- What stands for each pack: where a serial number is found, where the log or the list of names is longer, and where a slot is written;
-- and what is kept on a shelf, once one of its packs is written.
use Rattle.std.proofs.ByRecursion.{All-append, All-get_or, All-set}
use Rattle.std.proofs.Math.ListN.{get_or-eq_default, set}
use Rattle.mv_repository.proofs.Words.{AllByRecursion, AreSlots, Bool, IfSome, IsDistinct, IsEntered, IsNamed, IsSpot, IsWritten, Writes, List, LogEntry, Made, None, Option, Own, Slot, SlotTable, Some, [], ap, arith, bytes_eq, common_steps, cond, false, get_or, get_or_append_left, get_or_push, insert_entry, insert_key, keyed, keys_of, length, length-append, length-map, nat_list_eq_equiv, nat_lt, no_slot, is_some-lookup, lookup, map, nat_tests, no_entry, refl, same_text, serial_hash, serial_of, serials_uploaded, subst, suc, sym, take, true, zero, ℕ, ◌++◌, ◌<◌, ◌≤◌, ◌∙◌, ◌∷◌, ◌≡◌, IsChanged, IsKept, Kept, ListingTable, ShelfTable, comes_first, get_or_default, is_listed, kept_by, kept_in, lists, nothing_kept, set, true≢false, absent_from_lookup, insert_entry-absent, IsDistinct-push, get_or-map, get_or-take, map-append, get_or-set_same, get_or-set_other, ◌+◌, fold, Item, Carried, Status, pack_key, PackKey, AreShelfOf, ShelfParts, shelf_by, IsPackOf, IsShelfOf, Life, life_of, is_status_of, no_shelf, serials_in, serials_of, shelf_of}
use Rattle.mv_repository.proofs.KeptLemmas.{text-self, text-sym, key_added, key_there, same_pack, once-all, IsUploadOf}
use Rattle.mv_repository.specs.declared.slots.Spot.{Spot}
use Rattle.mv_repository.proofs.TableLemmas.{log-split}

-- what is found once a value is put in under a key
lookup-insert : (key : List ℕ) (slot : Slot) (other : List ℕ) (entries : List (List ℕ × Slot))
    → lookup (bytes_eq other) (insert_entry bytes_eq entries key slot) ≡ cond (bytes_eq key other) (Some slot) (lookup (bytes_eq other) entries)
lookup-insert key slot other [] = grind (arith, nat_tests, text-sym)
lookup-insert key slot other (e ∷ rest) = grind (arith, nat_tests, lookup-insert key slot other rest, text-sym, text-self, same_text key e.0, same_text key other, same_text other e.0)

-- values, each under a key of its own
module _ {X : Type 0} (key : X → List ℕ) where
  abbrev under : List X → List (List ℕ × X)
  under xs = map (λ x. (key x, x)) xs

  keys-under : (xs : List X) → keys_of (under xs) ≡ map key xs
  keys-under [] = refl
  keys-under (x ∷ xs) = ap (λ rest. key x ∷ rest) (keys-under xs)

  -- what holds of all values holds of the one that is found
  found-there : (P : X → Type 0) (one : List ℕ) (xs : List X) → AllByRecursion P xs → IfSome (lookup (bytes_eq one) (under xs)) (λ x. P x × (one ≡ key x))
  found-there P one [] h = tt
  found-there P one (x ∷ xs) h = grind (arith, nat_tests, found-there P one xs h.1, same_text one (key x))

  module _ (none : X) where
    apart : (x : X) (xs : List X) (at : ℕ) → at < length xs → AllByRecursion (λ other. bytes_eq (key x) other ≡ false) (keys_of (under xs)) → bytes_eq (key (get_or xs at none)) (key x) ≡ false
    apart x [] at l h = absurd (omega (arith, l))
    apart x (y ∷ ys) zero l h = text-sym (key y) (key x) ∙ h.0
    apart x (y ∷ ys) (suc at) l h = apart x ys at (omega (arith, l)) h.1

    -- a key is found where its value is
    lookup-there : (one : List ℕ) (xs : List X) (at : ℕ) → at < length xs → key (get_or xs at none) ≡ one → IsDistinct bytes_eq (keys_of (under xs))
        → lookup (bytes_eq one) (under xs) ≡ Some (get_or xs at none)
    unfolding IsDistinct
    lookup-there one [] at l e distinct = absurd (omega (arith, l))
    lookup-there one (x ∷ xs) zero l e distinct = grind (arith, nat_tests, text-self)
    lookup-there one (x ∷ xs) (suc at) l e distinct = grind (arith, nat_tests, lookup-there one xs at (omega (arith, l)) e distinct.1, apart x xs at (omega (arith, l)) distinct.0)

    -- and nowhere, where it is that of none
    lookup-absent : (one : List ℕ) (xs : List X) → ((at : ℕ) → at < length xs → bytes_eq (key (get_or xs at none)) one ≡ false) → lookup (bytes_eq one) (under xs) ≡ None
    lookup-absent one [] h = refl
    lookup-absent one (x ∷ xs) h = grind (arith, nat_tests, text-sym, h 0 (omega arith), lookup-absent one xs (λ at l. h (suc at) (omega (arith, l))))

    -- a value is written where its key is
    put-there : (one : List ℕ) (new : X) (xs : List X) (at : ℕ) → at < length xs → key (get_or xs at none) ≡ one → key new ≡ one → IsDistinct bytes_eq (keys_of (under xs))
        → under (set xs at new) ≡ insert_entry bytes_eq (under xs) one new
    unfolding IsDistinct
    put-there one new [] at l e own distinct = absurd (omega (arith, l))
    put-there one new (x ∷ xs) zero l e own distinct = grind (arith, nat_tests, text-self)
    put-there one new (x ∷ xs) (suc at) l e own distinct = grind (arith, nat_tests, put-there one new xs at (omega (arith, l)) e own distinct.1, apart x xs at (omega (arith, l)) distinct.0)

pub keys_keyed : (log : List LogEntry) (names : List (List ℕ)) (slots : List Slot) → keys_of (keyed log names slots) ≡ map (serial_of log names) slots
keys_keyed log names = keys-under (serial_of log names)

-- what stands there in the front of a log stands there in all of it
same-named : (whole : List LogEntry) (place : ℕ) (names : List (List ℕ)) (slot : Slot) → IsNamed (take place whole) names slot
    → IsNamed whole names slot × (serial_of whole names slot ≡ serial_of (take place whole) names slot)
same-named whole place names (Own number) h = (h, refl)
same-named whole place names (Made index at) h = by (nat_lt at place) refl
  where
    by : (b : Bool) → nat_lt at place ≡ b → IsNamed whole names (Made index at) × (serial_of whole names (Made index at) ≡ serial_of (take place whole) names (Made index at))
    by true e =
        let same : get_or (take place whole) at no_entry ≡ get_or whole at no_entry = get_or-take place whole at no_entry (grind (arith, nat_tests)) in
        (subst (λ (entry : LogEntry). index < length (serials_uploaded entry.item)) same h, sym (ap (λ (entry : LogEntry). get_or (serials_uploaded entry.item) index []) same))
    by false e =
        let none : get_or (take place whole) at no_entry ≡ no_entry = get_or-eq_default (take place whole) no_entry (grind (arith, nat_tests, common_steps)) in
        absurd (omega (arith, subst (λ (entry : LogEntry). index < length (serials_uploaded entry.item)) none h))

-- and what stands among the names, where there is one more
more-named : (log : List LogEntry) (names : List (List ℕ)) (name : List ℕ) (slot : Slot) → IsNamed log names slot
    → IsNamed log (names ++ name ∷ []) slot × (serial_of log (names ++ name ∷ []) slot ≡ serial_of log names slot)
more-named log names name (Made index place) h = (h, refl)
more-named log names name (Own number) h = (omega (arith, h, length-append names (name ∷ [])), grind (arith, get_or_append_left, h))

-- where each slot names what it named, the slots are what they were
module _ (whole log : List LogEntry) (more names : List (List ℕ))
    (same : (slot : Slot) → IsNamed log names slot → IsNamed whole more slot × (serial_of whole more slot ≡ serial_of log names slot)) where
  same-keyed : (slots : List Slot) → AllByRecursion (IsNamed log names) slots → AllByRecursion (IsNamed whole more) slots × (keyed whole more slots ≡ keyed log names slots)
  same-keyed [] h = (tt, refl)
  same-keyed (slot ∷ slots) h = let one = same slot h.0 in
      let rest = same-keyed slots h.1 in
      ((one.0, rest.0), λ i. (one.1 i, slot) ∷ rest.1 i)

  slots-same : (hashes : List ℕ) (slots : List Slot) → AreSlots log (record { hashes = hashes; slots = slots; names = names })
      → AreSlots whole (record { hashes = hashes; slots = slots; names = more }) × (keyed whole more slots ≡ keyed log names slots)
  slots-same hashes slots are = let kept = same-keyed slots are.named in (record { hashes = are.hashes ∙ ap (λ (l : List (List ℕ × Slot)). map serial_hash (keys_of l)) (sym kept.1); named = kept.0; distinct = subst (λ (l : List (List ℕ × Slot)). IsDistinct bytes_eq (keys_of l)) (sym kept.1) are.distinct }, kept.1)

pub slots-longer : (whole : List LogEntry) (place : ℕ) (table : SlotTable) → AreSlots (take place whole) table
    → AreSlots whole table × (keyed whole table.names table.slots ≡ keyed (take place whole) table.names table.slots)
slots-longer whole place table = slots-same whole (take place whole) table.names table.names (same-named whole place table.names) table.hashes table.slots

module _ (log : List LogEntry) (table : SlotTable) (are : AreSlots log table) (serial : List ℕ) where
  abbrev entries : List (List ℕ × Slot)
  entries = keyed log table.names table.slots

  abbrev here : ℕ → List ℕ
  here number = serial_of log table.names (get_or table.slots number no_slot)

  -- a pack that has a track has its name there
  pub own-there : (number : ℕ) → lookup (bytes_eq serial) entries ≡ Some (Own number) → (number < length table.names) × (serial ≡ get_or table.names number [])
  own-there number e =
      subst (λ (o : Option Slot). IfSome o (λ slot. IsNamed log table.names slot × (serial ≡ serial_of log table.names slot))) e
      (found-there (serial_of log table.names) (IsNamed log table.names) serial table.slots are.named)

  -- where it is found, and where it is not
  pub spot-there : (hash number : ℕ) → hash ≡ serial_hash serial → number < length table.slots → here number ≡ serial
      → IsSpot log table serial (record { hash = hash; number = number; slot = Some (get_or table.slots number no_slot) })
  spot-there hash number h l e = record { hash = h; slot = sym (lookup-there (serial_of log table.names) no_slot serial table.slots number l e are.distinct); number = λ within. e; none = λ behind. absurd (omega (arith, l, behind)) }

  pub spot-none : (hash number : ℕ) → hash ≡ serial_hash serial → length table.slots ≤ number
      → ((number : ℕ) → number < length table.hashes → get_or table.hashes number 0 ≡ serial_hash serial → bytes_eq (here number) serial ≡ false)
      → IsSpot log table serial (record { hash = hash; number = number; slot = None })
  spot-none hash behind h l none = record { hash = h; slot = sym (lookup-absent (serial_of log table.names) no_slot serial table.slots (λ number l. by number l (bytes_eq (here number) serial) refl)); number = λ within. absurd (omega (arith, l, within)); none = λ past. refl }
    where
      hashes : table.hashes ≡ map serial_hash (map (serial_of log table.names) table.slots)
      hashes = are.hashes ∙ ap (map serial_hash) (keys_keyed log table.names table.slots)

      by : (number : ℕ) → number < length table.slots → (b : Bool) → bytes_eq (here number) serial ≡ b → bytes_eq (here number) serial ≡ false
      by number l false e = e
      by number l true e =
          let within : number < length (map (serial_of log table.names) table.slots) = omega (arith, l, length-map table.slots (serial_of log table.names)) in
          none number (omega (arith, within, ap length hashes, length-map (map (serial_of log table.names) table.slots) serial_hash))
          (ap (λ (l : List ℕ). get_or l number 0) hashes ∙ get_or-map serial_hash (map (serial_of log table.names) table.slots) number [] 0 within
          ∙ ap serial_hash (get_or-map (serial_of log table.names) table.slots number no_slot [] l ∙ same_text (here number) serial (sym e)))

  module _ (new : Slot) (named : IsNamed log table.names new) (own : serial_of log table.names new ≡ serial) where
    -- slots that go under their keys, with their hashes
    is-written : (hashes : List ℕ) (slots : List Slot) → keyed log table.names slots ≡ insert_entry bytes_eq entries serial new → AllByRecursion (IsNamed log table.names) slots
        → hashes ≡ map serial_hash (insert_key bytes_eq (keys_of entries) serial) → IsWritten log table (record { hashes = hashes; slots = slots; names = table.names }) serial new
    is-written hashes slots e all h = (record { hashes = h ∙ ap (map serial_hash) (sym keys); named = all; distinct = subst (IsDistinct bytes_eq) (sym keys) (distinct (keys_of entries) are.distinct) }, record { keys = keys; found = λ other. ap (lookup (bytes_eq other)) e ∙ lookup-insert serial new other entries })
      where
        keys : keys_of (keyed log table.names slots) ≡ insert_key bytes_eq (keys_of entries) serial
        keys = ap keys_of e ∙ key_added bytes_eq entries serial new

        distinct : (xs : List (List ℕ)) → IsDistinct bytes_eq xs → IsDistinct bytes_eq (insert_key bytes_eq xs serial)
        distinct xs d = grind (arith, nat_tests, IsDistinct-push nat_list_eq_equiv)

    pub written-there : (number : ℕ) → number < length table.slots → here number ≡ serial → IsWritten log table (record table { slots = set table.slots number new }) serial new
    written-there number l there =
        is-written table.hashes (set table.slots number new) (put-there (serial_of log table.names) no_slot serial new table.slots number l there own are.distinct)
        (All-set (IsNamed log table.names) table.slots number new named are.named)
        (are.hashes ∙ ap (map serial_hash) (key_there bytes_eq entries serial (get_or table.slots number no_slot) (lookup-there (serial_of log table.names) no_slot serial table.slots number l there are.distinct)))

    pub written-behind : (hash : ℕ) → hash ≡ serial_hash serial → lookup (bytes_eq serial) entries ≡ None
        → IsWritten log table (record table { hashes = table.hashes ++ hash ∷ []; slots = table.slots ++ new ∷ [] }) serial new
    written-behind hash h none = is-written (table.hashes ++ hash ∷ []) (table.slots ++ new ∷ [])
        (map-append (λ slot. (serial_of log table.names slot, slot)) table.slots (new ∷ []) ∙ ap (λ one. entries ++ (one, new) ∷ []) own
        ∙ sym (insert_entry-absent bytes_eq serial new entries (absent_from_lookup (bytes_eq serial) entries none)))
        (All-append (IsNamed log table.names) table.slots (new ∷ []) are.named (named, tt))
        (grind (arith, nat_tests, are.hashes, map-append, is_some-lookup (bytes_eq serial) entries, none, h))

  -- a pack gets a name, and its slot the number of that
  pub written-own : (spot : Spot) (new : SlotTable) → IsSpot log table serial spot → Writes spot (Own (length table.names)) (record table { names = table.names ++ serial ∷ [] }) new
      → IsWritten log table new serial (Own (length table.names))
  written-own spot new is writes =
      subst (λ (l : List (List ℕ × Slot)). AreSlots log new × IsEntered l (keyed log new.names new.slots) serial (Own (length table.names))) same.1
      (writes log serial same.0 (record {
        hash = is.hash;
        slot = is.slot ∙ ap (lookup (bytes_eq serial)) (sym same.1);
        number = λ l. (more-named log table.names serial (get_or table.slots spot.number no_slot) (All-get_or (IsNamed log table.names) table.slots spot.number no_slot l are.named)).1 ∙ is.number l;
        none = is.none;
      }) (omega (arith, length-append table.names (serial ∷ []))) (get_or_push table.names serial [] (length table.names) refl))
    where
      same : AreSlots log (record table { names = table.names ++ serial ∷ [] }) × (keyed log (table.names ++ serial ∷ []) table.slots ≡ entries)
      same = slots-same log log (table.names ++ serial ∷ []) table.names (more-named log table.names serial) table.hashes table.slots are

pub if-some : {A : Type 0} {P Q : A → Type 0} → (o : Option A) → IfSome o P → ((x : A) → P x → Q x) → IfSome o Q
if-some o p f = grind (arith, nat_tests)

-- a slot that stands there under a serial number
pub entered-there : (slots : List (List ℕ × Slot)) (serial : List ℕ) (slot : Slot) → lookup (bytes_eq serial) slots ≡ Some slot → IsEntered slots slots serial slot
entered-there slots serial slot e = record { keys = key_there bytes_eq slots serial slot e; found = λ other. grind (arith, nat_tests, e, same_text serial other) }

-- nothing is written, where the newest entry is not the first upload of the pack
pub none-changed : (log : List LogEntry) (place : ℕ) (serial : List ℕ) (shelf : ShelfTable) → comes_first log place (kept_in shelf serial).birth ≡ false → IsChanged serial shelf shelf
none-changed log place serial shelf e = record { keys = grind (arith, nat_tests, is_some-lookup (bytes_eq serial) shelf.slots); others = λ other life n of. of }

-- one slot is written, and the tracks of other packs stay
module _ (serial : List ℕ) (slot : Slot) (old new : ShelfTable) (entered : IsEntered old.slots new.slots serial slot) where
  pub found-own : lookup (bytes_eq serial) new.slots ≡ Some slot
  found-own = entered.found serial ∙ ap (λ b. cond b (Some slot) (lookup (bytes_eq serial) old.slots)) (text-self serial)

  pub is-changed : ((other : List ℕ) (number : ℕ) → bytes_eq serial other ≡ false → lookup (bytes_eq other) old.slots ≡ Some (Own number) → get_or new.tracks number nothing_kept ≡ get_or old.tracks number nothing_kept)
      → ((batch : List ℕ) (number : ℕ) → lists old.listing batch number ≡ true → lists new.listing batch number ≡ true) → IsChanged serial old new
  is-changed tracks more = record {
    keys = entered.keys;
    others = λ other life e of.
        let same = entered.found other ∙ ap (λ b. cond b (Some slot) (lookup (bytes_eq other) old.slots)) e in
        let both = by other e (lookup (bytes_eq other) old.slots) refl in
        record { kept = subst (IsKept life) (sym (ap (kept_by new.tracks) same ∙ both.0)) of.kept; listed = if-some _ of.listed (λ batch h. ap (λ (one : Option Slot). is_listed new.listing one batch) same ∙ both.1 batch h) };
  }
    where
      by : (other : List ℕ) → bytes_eq serial other ≡ false → (one : Option Slot) → lookup (bytes_eq other) old.slots ≡ one
          → (kept_by new.tracks one ≡ kept_by old.tracks one) × ((batch : List ℕ) → is_listed old.listing one batch ≡ true → is_listed new.listing one batch ≡ true)
      by other e None is = (refl, λ batch h. h)
      by other e (Some (Made index place)) is = (refl, λ batch h. h)
      by other e (Some (Own number)) is = (tracks other number e is, λ batch h. more batch number h)

-- the track of one pack is written
module _ (log : List LogEntry) (table : SlotTable) (are : AreSlots log table) (tracks : List Kept) (l : length table.names ≡ length tracks) (serial : List ℕ) (number : ℕ)
    (found : lookup (bytes_eq serial) (keyed log table.names table.slots) ≡ Some (Own number)) where
  pub own-within : number < length tracks
  own-within = omega (arith, (own-there log table are serial number found).0, l)

  pub own-kept : (track : Kept) → track ≡ get_or tracks number track → kept_by tracks (lookup (bytes_eq serial) (keyed log table.names table.slots)) ≡ track
  own-kept track e = ap (kept_by tracks) found ∙ get_or_default tracks number nothing_kept track own-within ∙ sym e

  pub own-set : (track : Kept) → kept_by (set tracks number track) (lookup (bytes_eq serial) (keyed log table.names table.slots)) ≡ track
  own-set track = ap (kept_by (set tracks number track)) found ∙ get_or-set_same tracks number track nothing_kept own-within

  pub own-changed : (track : Kept) (listing noted : ListingTable) → ((batch : List ℕ) (one : ℕ) → lists listing batch one ≡ true → lists noted batch one ≡ true)
      → IsChanged serial (record { slots = keyed log table.names table.slots; tracks = tracks; listing = listing }) (record { slots = keyed log table.names table.slots; tracks = set tracks number track; listing = noted })
  own-changed track listing noted =
      is-changed serial (Own number) (record { slots = keyed log table.names table.slots; tracks = tracks; listing = listing }) (record { slots = keyed log table.names table.slots; tracks = set tracks number track; listing = noted })
      (entered-there (keyed log table.names table.slots) serial (Own number) found)
      (λ other one e is. get_or-set_other tracks number one track nothing_kept (λ same.
      let name = (own-there log table are other one is).1 ∙ ap (λ (n : ℕ). get_or table.names n []) same ∙ sym (own-there log table are serial number found).1 in
      true≢false (sym (ap (bytes_eq serial) name ∙ text-self serial) ∙ e)))

-- ---- The serial numbers of a product that a log names, after one more entry; and what is kept of all packs, where the shelf of one product is

-- those that the newest entry names are put in, one after another
pub serials-at : (whole : List LogEntry) (place : ℕ) (gtin : List ℕ) (serials : List (List ℕ)) → length whole ≡ place + 1 → serials_in gtin (get_or whole place no_entry).item ≡ serials
    → serials_of whole gtin ≡ fold (insert_key bytes_eq) (serials_of (take place whole) gtin) serials
serials-at whole place gtin serials l e = ap (λ (log : List LogEntry). serials_of log gtin) (log-split whole place l)
    ∙ once-all bytes_eq (λ (one : LogEntry). serials_in gtin one.item) (take place whole) (get_or whole place no_entry) serials e

pub upload-serials : (other gtin : List ℕ) (serials : List (List ℕ)) (item : Item) → IsUploadOf item gtin serials → serials_in other item ≡ cond (bytes_eq gtin other) serials []
upload-serials other gtin serials item u = grind (arith, nat_tests)

pub status-serials : (other : List ℕ) (pack : PackKey) (item : Item) → is_status_of pack item ≡ true → serials_in other item ≡ cond (bytes_eq pack.gtin other) (pack.serial ∷ []) []
status-serials other pack (Carried k stamp (Status key to user at)) e = ap (λ (q : PackKey). cond (bytes_eq q.gtin other) (q.serial ∷ []) []) (same_pack key pack e)
status-serials other pack _ e = absurd (true≢false (sym e))

-- the packs of a product are by one log what they are by another
abbrev pub AreSamePacks : List LogEntry → List LogEntry → List ℕ → Type 0
AreSamePacks whole before gtin =
    ((serial : List ℕ) → life_of (pack_key gtin serial) whole ≡ life_of (pack_key gtin serial) before) × (serials_of whole gtin ≡ serials_of before gtin)

-- so its shelf stays
pub shelf-stays : (whole before : List LogEntry) (gtin : List ℕ) (shelf : ShelfTable) → AreSamePacks whole before gtin → IsShelfOf before gtin shelf → IsShelfOf whole gtin shelf
shelf-stays whole before gtin shelf same of = record { packs = λ serial. subst (λ (l : Life). IsPackOf l shelf serial) (sym (same.0 serial)) (of.packs serial); serials = of.serials ∙ sym same.1 }

-- a log with no entry
pub no-shelf-yet : (gtin : List ℕ) → AreShelfOf [] gtin no_shelf
unfolding IsDistinct
no-shelf-yet gtin = record { slots = record { hashes = refl; named = tt; distinct = tt }; shelf = record { packs = λ serial. record { kept = record { bare = refl; blocks = tt }; listed = tt }; serials = refl } }

-- what is kept on a shelf by the front of a log, is so by all of it
pub shelf-longer : (whole : List LogEntry) (place : ℕ) (gtin : List ℕ) (parts : ShelfParts) → AreShelfOf (take place whole) gtin parts
    → AreSlots whole parts.table × IsShelfOf (take place whole) gtin (shelf_by whole parts)
shelf-longer whole place gtin parts of = let longer = slots-longer whole place parts.table of.slots in
    (longer.0, subst (λ (slots : List (List ℕ × Slot)). IsShelfOf (take place whole) gtin (record { slots = slots; tracks = parts.tracks; listing = parts.listing })) (sym longer.1) of.shelf)

-- the same but for the room
pub shelf-same : (log : List LogEntry) (gtin : List ℕ) (old new : ShelfParts) → new.table ≡ old.table → new.tracks ≡ old.tracks → new.listing ≡ old.listing → AreShelfOf log gtin old → AreShelfOf log gtin new
shelf-same log gtin old new slots tracks listing of = record { slots = subst (AreSlots log) (sym slots) of.slots; shelf = subst (IsShelfOf log gtin) (λ i. record { slots = keyed log (sym slots i).names (sym slots i).slots; tracks = sym tracks i; listing = sym listing i }) of.shelf }

-- the same of a shelf as it is seen
pub shelf-seen : {given parts : ShelfParts} (whole : List LogEntry) (place : ℕ) (gtin : List ℕ) → given ≡ parts → AreShelfOf (take place whole) gtin parts
    → AreSlots whole given.table × IsShelfOf (take place whole) gtin (shelf_by whole given)
shelf-seen {given} whole place gtin e of = shelf-longer whole place gtin given (subst (AreShelfOf (take place whole) gtin) (sym e) of)

pub shelf-kept : (whole : List LogEntry) (place : ℕ) (gtin : List ℕ) (parts : ShelfParts) → AreSamePacks whole (take place whole) gtin → AreShelfOf (take place whole) gtin parts → AreShelfOf whole gtin parts
shelf-kept whole place gtin parts same of = let longer = shelf-longer whole place gtin parts of in
    record { slots = longer.0; shelf = shelf-stays whole (take place whole) gtin (shelf_by whole parts) same longer.1 }

-- the product has this shelf, and each other product its own
abbrev pub IsShelved : List (List ℕ × ShelfParts) → List (List ℕ × ShelfParts) → List ℕ → ShelfParts → Type 0
IsShelved old new gtin shelf = (other : List ℕ) → shelf_of other new ≡ cond (bytes_eq gtin other) shelf (shelf_of other old)

-- where its shelf is written under its code
pub shelf-written : (old new left : List (List ℕ × ShelfParts)) (gtin : List ℕ) (shelf : ShelfParts)
    → ((other : List ℕ) → lookup (bytes_eq other) new ≡ cond (bytes_eq gtin other) (Some shelf) (lookup (bytes_eq other) old)) → left ≡ new → IsShelved old left gtin shelf
shelf-written old new left gtin shelf h e other = grind (arith, nat_tests)

-- where it has none, and nothing is written
pub shelved-none : (old new : List (List ℕ × ShelfParts)) (gtin : List ℕ) → new ≡ old → shelf_of gtin old ≡ no_shelf → IsShelved old new gtin no_shelf
shelved-none old new gtin same empty other = grind (arith, nat_tests, same_text gtin other)

-- where the shelf of a product follows a log, which bears on no other product, all do
pub shelves-follow : (old new : List (List ℕ × ShelfParts)) (gtin : List ℕ) (shelf : ShelfParts) → IsShelved old new gtin shelf → (whole before : List LogEntry)
    → ((other : List ℕ) → AreShelfOf before other (shelf_of other old)) → AreShelfOf whole gtin shelf
    → ((other : List ℕ) → bytes_eq gtin other ≡ false → (parts : ShelfParts) → AreShelfOf before other parts → AreShelfOf whole other parts) → (other : List ℕ) → AreShelfOf whole other (shelf_of other new)
shelves-follow old new gtin shelf looks whole before shelves now away other = grind (arith, nat_tests, looks other, shelves other, away other, same_text gtin other)
