-- What a recall and a withdrawal do: their effects, the tables that find the first, and the packs on which they bear, which are worked out
-- again, also without need.
use Rattle.mv_repository.proofs.Words.{◌||◌, FirstStops, ListingTable, is_listed, lists, ap, subst, made_batch, option_and_then, AreFirstsOf, AreStopsOf, BatchKey, Bool, IfSome, IsShelfOf, Item, List, LogEntry, Option, Own, PackKey, Placed, ShelfTable, Some, Stop, Stops, [], arith, batch_key, bytes_eq, comes_first, common_steps, effect_after, effect_of, entries_before, false, find, first_stops, first_upload, get_or, is_master, is_recall_of, is_same_batch, is_status_of, is_stop, is_upload_of, is_withdrawal_of, lasting_effect, length, life_of, list_any, lookup, may_stop, nat_tests, next_by, no_entry, not, option_map, ordered, pack_key, place_of, recalled_in, rules, same_text, stopped_product, sym, take, true, true≢false, withdrawn_in, ℕ, ◌+◌, ◌∙◌, ◌∷◌, ◌≡◌, None, refl, Slot, Made, stops_in, IsAgain, IsPackOf, IsRefreshed, AreShelfOf, shelf_by, kept_by, no_shelf, nothing_kept, IsKept, Kept, statuses_of}
use Rattle.mv_repository.proofs.TableLemmas.{any-before, NamesNone, NoPack, at-newest, filter-none, find-later, find-none, find-some, longer, newest, recalls-stay, withdrawals-stay, log-split}
use Rattle.mv_repository.proofs.KeptLemmas.{HasFirst, life_batch, same_batch, batch-self, text-self, key_stays, once-all, one-recall, one-withdrawal}
use Rattle.mv_repository.proofs.OrderLemmas.{ordered-ascends, ordered-below}
use Rattle.mv_repository.proofs.SlotLemmas.{AreSamePacks, serials-at}
use Rattle.mv_repository.proofs.UploadLemmas.{first-effect}
use Rattle.mv_repository.specs.declared.stops.Stop.TheVariants as stops
use Rattle.mv_repository.proofs.TrackLemmas.{track-is}

-- the place of the first that stops so, by the tables
abbrev pub first_place : Stop → Stops → Option ℕ
first_place (stops.OfBatch batch) tables = lookup (is_same_batch batch.now) tables.recalls.entries
first_place (stops.OfProduct gtin) tables = lookup (bytes_eq gtin.now) tables.withdrawals.entries

-- an item is no master
abbrev pub NoMaster : Item → Type 0
NoMaster item = (gtin : List ℕ) → is_master gtin item ≡ false

recall-form : (key : BatchKey) (item : Item) → is_recall_of key item ≡ true → ((batch : BatchKey) → is_recall_of batch item ≡ is_same_batch key batch) × ((gtin : List ℕ) → is_withdrawal_of gtin item ≡ false) × NoPack item × NoMaster item
recall-form key item h1 = search rules

withdrawal-form : (gtin : List ℕ) (item : Item) → is_withdrawal_of gtin item ≡ true → ((code : List ℕ) → is_withdrawal_of code item ≡ bytes_eq gtin code) × ((batch : BatchKey) → is_recall_of batch item ≡ false) × NoPack item × NoMaster item
withdrawal-form gtin item h1 = search rules

pub stop-form : (stop : Stop) (item : Item) → is_stop stop item ≡ true → NoPack item × NoMaster item
stop-form stop item e = grind (arith, nat_tests)

-- the effect of what holds for ever is by the first of its kind
lasting : (f : Placed → Bool) (log : List LogEntry) (entry : LogEntry) (place : Option ℕ) (first : Bool) → place ≡ option_map place_of (find f (ordered log)) → first ≡ comes_first (longer log entry) (length log) place → lasting_effect (not first) ≡ lasting_effect (list_any f (entries_before log entry))
lasting f log entry place first e h = grind (arith, nat_tests, any-before f (newest log entry) (ordered log) (ordered-ascends log) (ordered-below log), first-effect)

stops-so : (stop : Stop) (before : List Placed) (sender : ℕ) (item : Item) → is_stop stop item ≡ true → lasting_effect (list_any (λ placed. is_stop stop placed.entry.item) before) ≡ effect_after before sender item
stops-so stop before sender item h = search rules

stop-found : (log : List LogEntry) (tables : Stops) (stop : Stop) → AreStopsOf log tables → first_place stop tables ≡ option_map place_of (find (λ placed. is_stop stop placed.entry.item) (ordered log))
stop-found log tables stop are = grind (arith, nat_tests, are.recalls.found, are.withdrawals.found)

stop-effect : (log : List LogEntry) (entry : LogEntry) (tables : Stops) (stop : Stop) (first : Bool) → AreStopsOf log tables → is_stop stop entry.item ≡ true
    → first ≡ comes_first (longer log entry) (length log) (first_place stop tables) → lasting_effect (not first) ≡ effect_of log entry
stop-effect log entry tables stop first are e h =
    lasting (λ placed. is_stop stop placed.entry.item) log entry (first_place stop tables) first (stop-found log tables stop are) h ∙ stops-so stop (entries_before log entry) entry.sender entry.item e

-- one more of a kind of which each item has one key
module _ {K : Type 0} (same : K → K → Bool) (is_of : K → Item → Bool) (keys_in : Item → List K) (log : List LogEntry) (entry : LogEntry) (places : List (K × ℕ)) (key : K)
    (one : (other : K) → same key other ≡ true → key ≡ other) (self : same key key ≡ true) (firsts : AreFirstsOf same is_of keys_in log places) (names : (k : K) → is_of k entry.item ≡ same key k) where
  -- where it is not the first under its key, it leaves the first under each
  first-later : comes_first (longer log entry) (length log) (lookup (same key) places) ≡ false
      → (k : K) → find (λ placed. is_of k placed.entry.item) (ordered (longer log entry)) ≡ find (λ placed. is_of k placed.entry.item) (ordered log)
  first-later e k = grind (arith, nat_tests, find-later, find-none, same)

  -- the table has the earlier of it and the first so far
  firsts-more : (places' : List (K × ℕ)) → keys_in entry.item ≡ key ∷ [] → HasFirst same (longer log entry) (length log) key places places'
      → AreFirstsOf same is_of keys_in (longer log entry) places'
  firsts-more places' own has = grind (arith, nat_tests, has.places, has.keys, find-none, find-some, longer, once-all same (λ (one : LogEntry). keys_in one.item) log entry (key ∷ []) own, same)

stop-later : (log : List LogEntry) (entry : LogEntry) (tables : Stops) (stop : Stop) → AreStopsOf log tables → is_stop stop entry.item ≡ true
    → comes_first (longer log entry) (length log) (first_place stop tables) ≡ false → first_stops (ordered (longer log entry)) ≡ first_stops (ordered log)
stop-later log entry tables (stops.OfBatch batch) are own e = let form = recall-form batch.now entry.item own in
    let later = first-later is_same_batch is_recall_of recalled_in log entry tables.recalls.entries batch.now (same_batch batch.now) (batch-self batch.now) are.recalls form.0 e in
    λ i. record { recall = λ b. later b i; withdrawal = λ gtin. find-none (λ placed. is_withdrawal_of gtin placed.entry.item) log entry (form.1 gtin) i }
stop-later log entry tables (stops.OfProduct gtin) are own e = let form = withdrawal-form gtin.now entry.item own in
    let later = first-later bytes_eq is_withdrawal_of withdrawn_in log entry tables.withdrawals.entries gtin.now (λ other h. same_text gtin.now other (sym h)) (text-self gtin.now) are.withdrawals form.0 e in
    λ i. record { recall = λ batch. find-none (λ placed. is_recall_of batch placed.entry.item) log entry (form.1 batch) i; withdrawal = λ g. later g i }

-- what a status does goes by the first recall of the batch of the pack, and the first withdrawal of its product, alone
next-same : (stops stops' : FirstStops) (gtin : List ℕ) (birth : Option Placed) (by x : Placed) → stops.withdrawal gtin ≡ stops'.withdrawal gtin
    → ((batch : List ℕ) → option_and_then made_batch birth ≡ Some batch → stops.recall (batch_key gtin batch) ≡ stops'.recall (batch_key gtin batch)) → next_by stops gtin birth by x ≡ next_by stops' gtin birth by x
next-same stops stops' gtin birth by x w r = grind (arith, nat_tests)

-- an entry that names no pack, withdraws not the product of a pack, and recalls not its batch
elsewhere : (log : List LogEntry) (entry : LogEntry) (pack : PackKey) → NamesNone pack entry.item → is_withdrawal_of pack.gtin entry.item ≡ false
    → IfSome (life_batch (life_of pack log)) (λ batch. is_recall_of (batch_key pack.gtin batch) entry.item ≡ false)
    → life_of pack (longer log entry) ≡ life_of pack log
elsewhere log entry pack names withdrawal recall = let first = find-none (λ placed. is_upload_of pack placed.entry.item) log entry names.0 in
    let own = filter-none (λ placed. is_status_of pack placed.entry.item) log entry names.1 in
    λ i. record { birth = first i; statuses = own i; next = λ by x. same by x i }
  where
    same : (by x : Placed) → next_by (first_stops (ordered (longer log entry))) pack.gtin (first_upload pack (ordered (longer log entry))) by x
        ≡ next_by (first_stops (ordered log)) pack.gtin (first_upload pack (ordered log)) by x
    same by x = ap (λ (birth : Option Placed). next_by (first_stops (ordered (longer log entry))) pack.gtin birth by x) (find-none (λ placed. is_upload_of pack placed.entry.item) log entry names.0)
        ∙ next-same (first_stops (ordered (longer log entry))) (first_stops (ordered log)) pack.gtin (first_upload pack (ordered log)) by x (find-none (λ placed. is_withdrawal_of pack.gtin placed.entry.item) log entry withdrawal)
        (λ batch e. find-none (λ placed. is_recall_of (batch_key pack.gtin batch) placed.entry.item) log entry (subst (λ (o : Option (List ℕ)). IfSome o (λ batch. is_recall_of (batch_key pack.gtin batch) entry.item ≡ false)) e recall))

-- what is said of each batch is said of that of a pack
if-any : {P : List ℕ → Type 0} → (made : Option (List ℕ)) → ((batch : List ℕ) → P batch) → IfSome made P
if-any None h = tt
if-any (Some batch) h = h batch

other-product : (one : BatchKey) (gtin batch : List ℕ) → bytes_eq one.gtin gtin ≡ false → is_same_batch one (batch_key gtin batch) ≡ false
other-product one gtin batch n = grind (arith, nat_tests)

other-listed : (listing : ListingTable) (one : BatchKey) (batch : List ℕ) (number : ℕ) → lists listing one.batch number ≡ false → lists listing batch number ≡ true → is_same_batch one (batch_key one.gtin batch) ≡ false
other-listed listing one batch number none has = grind (arith, nat_tests, same_text one.batch batch)

-- the newest entry, by its place
module _ (whole : List LogEntry) (place : ℕ) (l : length whole ≡ place + 1) where
  abbrev log : List LogEntry
  log = take place whole

  abbrev entry : LogEntry
  entry = get_or whole place no_entry

  pub stop-does : (tables : Stops) (stop : Stop) (first : Bool) → AreStopsOf log tables → is_stop stop entry.item ≡ true
      → first ≡ comes_first whole place (first_place stop tables) → lasting_effect (not first) ≡ effect_of log entry
  stop-does tables stop first are own = grind (arith, nat_tests, common_steps, stop-effect)

  pub stop-leaves : (tables : Stops) (stop : Stop) → AreStopsOf log tables → is_stop stop entry.item ≡ true
      → comes_first whole place (first_place stop tables) ≡ false → first_stops (ordered whole) ≡ first_stops (ordered log)
  stop-leaves tables stop are own = grind (arith, nat_tests, common_steps, stop-later)

  -- the tables once it is added
  abbrev pub AreFirsts : List LogEntry → List (BatchKey × ℕ) → List (List ℕ × ℕ) → Type 0
  AreFirsts w recalls withdrawals = AreFirstsOf is_same_batch is_recall_of recalled_in w recalls × AreFirstsOf bytes_eq is_withdrawal_of withdrawn_in w withdrawals

  pub recall-added : (tables : Stops) (key : BatchKey) (recalls : List (BatchKey × ℕ)) → AreStopsOf log tables → is_recall_of key entry.item ≡ true
      → HasFirst is_same_batch whole place key tables.recalls.entries recalls → AreFirsts whole recalls tables.withdrawals.entries
  recall-added tables key recalls are own = let form = recall-form key entry.item own in
      at-newest whole place l (λ w n. HasFirst is_same_batch w n key tables.recalls.entries recalls → AreFirsts w recalls tables.withdrawals.entries)
      (λ has. (firsts-more is_same_batch is_recall_of recalled_in log entry tables.recalls.entries key (same_batch key) (batch-self key) are.recalls form.0 recalls (one-recall key entry.item own) has, withdrawals-stay log entry tables.withdrawals.entries form.1 are.withdrawals))

  pub withdrawal-added : (tables : Stops) (key : List ℕ) (withdrawals : List (List ℕ × ℕ)) → AreStopsOf log tables → is_withdrawal_of key entry.item ≡ true
      → HasFirst bytes_eq whole place key tables.withdrawals.entries withdrawals → AreFirsts whole tables.recalls.entries withdrawals
  withdrawal-added tables key withdrawals are own = let form = withdrawal-form key entry.item own in
      at-newest whole place l (λ w n. HasFirst bytes_eq w n key tables.withdrawals.entries withdrawals → AreFirsts w tables.recalls.entries withdrawals)
      (λ has. (recalls-stay log entry tables.recalls.entries form.1 are.recalls, firsts-more bytes_eq is_withdrawal_of withdrawn_in log entry tables.withdrawals.entries key (λ other h. same_text key other (sym h)) (text-self key) are.withdrawals form.0 withdrawals (one-withdrawal key entry.item own) has))

  -- where it is not the first of its kind the tables stay
  pub stops-stand : (tables : Stops) (stop : Stop) → AreStopsOf log tables → is_stop stop entry.item ≡ true → comes_first whole place (first_place stop tables) ≡ false → AreStopsOf whole tables
  stops-stand tables (stops.OfBatch batch) are own later =
      let both = recall-added tables batch.now tables.recalls.entries are own (record { places = λ other. grind (arith, nat_tests, later); keys = key_stays is_same_batch whole place tables.recalls.entries batch.now later }) in record { recalls = both.0; withdrawals = both.1 }
  stops-stand tables (stops.OfProduct gtin) are own later =
      let both = withdrawal-added tables gtin.now tables.withdrawals.entries are own (record { places = λ other. grind (arith, nat_tests, later); keys = key_stays bytes_eq whole place tables.withdrawals.entries gtin.now later }) in record { recalls = both.0; withdrawals = both.1 }

  -- it bears on no pack of another product
  life-away : (stop : Stop) → is_stop stop entry.item ≡ true → (pack : PackKey) → bytes_eq (stopped_product stop) pack.gtin ≡ false → life_of pack whole ≡ life_of pack log
  life-away (stops.OfBatch batch) own pack n = let form = recall-form batch.now entry.item own in
      at-newest whole place l (λ w n. life_of pack w ≡ life_of pack log) (elsewhere log entry pack (form.2.0 pack) (form.1 pack.gtin) (if-any (life_batch (life_of pack log)) (λ other. form.0 (batch_key pack.gtin other) ∙ other-product batch.now pack.gtin other n)))
  life-away (stops.OfProduct gtin) own pack n = let form = withdrawal-form gtin.now entry.item own in
      at-newest whole place l (λ w n. life_of pack w ≡ life_of pack log) (elsewhere log entry pack (form.2.0 pack) (form.0 pack.gtin ∙ n) (if-any (life_batch (life_of pack log)) (λ other. form.1 (batch_key pack.gtin other))))

  pub stop-away : (stop : Stop) → is_stop stop entry.item ≡ true → (gtin : List ℕ) → bytes_eq (stopped_product stop) gtin ≡ false → AreSamePacks whole log gtin
  stop-away stop own gtin n = (λ serial. life-away stop own (pack_key gtin serial) n, serials-at whole place gtin [] l ((stop-form stop entry.item own).0.2 gtin))

  -- a stop bears on no pack whose track is not one that it may bear on
  pub stop-passes : (stop : Stop) → is_stop stop entry.item ≡ true → (shelf : ShelfTable) → IsShelfOf log (stopped_product stop) shelf
      → (serial : List ℕ) (number : ℕ) → lookup (bytes_eq serial) shelf.slots ≡ Some (Own number) → may_stop shelf.listing stop number ≡ false
      → life_of (pack_key (stopped_product stop) serial) whole ≡ life_of (pack_key (stopped_product stop) serial) log
  stop-passes (stops.OfBatch batch) own shelf of serial number found none = let pack = pack_key batch.now.gtin serial in
      let form = recall-form batch.now entry.item own in
      let listed = (of.packs serial).listed in
      at-newest whole place l (λ w n. life_of pack w ≡ life_of pack log) (elsewhere log entry pack (form.2.0 pack) (form.1 batch.now.gtin) (not-of (life_batch (life_of pack log)) (subst (λ (slot : Option Slot). IfSome (life_batch (life_of pack log)) (λ other. is_listed shelf.listing slot other ≡ true)) found listed)))
    where
      not-of : (made : Option (List ℕ)) → IfSome made (λ other. lists shelf.listing other number ≡ true) → IfSome made (λ other. is_recall_of (batch_key batch.now.gtin other) entry.item ≡ false)
      not-of None h = tt
      not-of (Some other) h = (recall-form batch.now entry.item own).0 (batch_key batch.now.gtin other) ∙ other-listed shelf.listing batch.now other number none h
  stop-passes (stops.OfProduct gtin) own shelf of serial number found none = absurd (true≢false none)

module _ (whole : List LogEntry) (place : ℕ) (tables : Stops) (gtin : List ℕ) (l : length whole ≡ place + 1) (stops : AreStopsOf whole tables)
    (none : NoPack (get_or whole place no_entry).item) where
  abbrev front : List LogEntry
  front = take place whole

  abbrev IsOf : List LogEntry → List ℕ → Kept → Type 0
  IsOf log serial = IsKept (life_of (pack_key gtin serial) log)

  first-stays : (serial : List ℕ) → first_upload (pack_key gtin serial) (ordered whole) ≡ first_upload (pack_key gtin serial) (ordered front)
  first-stays serial = grind (arith, nat_tests, find-none, none.0 (pack_key gtin serial), log-split whole place l)

  own-stay : (serial : List ℕ) → statuses_of (pack_key gtin serial) (ordered whole) ≡ statuses_of (pack_key gtin serial) (ordered front)
  own-stay serial = grind (arith, nat_tests, filter-none, none.0 (pack_key gtin serial), log-split whole place l)

  is_worked : (serial : List ℕ) (was kept : Kept) → IsOf front serial was → IsAgain whole (stops_in whole tables) gtin was.birth was kept → IsOf whole serial kept
  is_worked serial was kept e a = grind (arith, nat_tests, track-is whole tables (pack_key gtin serial) kept stops, first-stays, own-stay)

  -- what has no status stands by its upload
  none-again : (birth : Option ℕ) → IsAgain whole (stops_in whole tables) gtin birth (kept_by [] (option_map (Made 0) birth)) (kept_by [] (option_map (Made 0) birth))
  none-again birth = grind (arith, nat_tests)

  -- a shelf, where it was looked at some tracks again, and the entry bears on no pack of another
  pub shelf-again : (looked : ℕ → Bool) (shelf : ShelfTable) (tracks : List Kept)
      → ((number : ℕ) → IsRefreshed whole (stops_in whole tables) gtin (looked number) (get_or shelf.tracks number nothing_kept) (get_or tracks number nothing_kept))
      → ((serial : List ℕ) (number : ℕ) → lookup (bytes_eq serial) shelf.slots ≡ Some (Own number) → looked number ≡ false → life_of (pack_key gtin serial) whole ≡ life_of (pack_key gtin serial) front)
      → IsShelfOf front gtin shelf → IsShelfOf whole gtin (record shelf { tracks = tracks })
  shelf-again looked shelf tracks again away of = record { packs = pack; serials = of.serials ∙ sym (serials-at whole place gtin [] l (none.2 gtin)) }
    where
      by : (serial : List ℕ) (slot : Option Slot) → lookup (bytes_eq serial) shelf.slots ≡ slot
          → IsOf front serial (kept_by shelf.tracks slot) → IsOf whole serial (kept_by tracks slot)
      by serial None e kept = is_worked serial nothing_kept nothing_kept kept (none-again None)
      by serial (Some (Made index first)) e kept = is_worked serial (kept_by [] (Some (Made 0 first))) (kept_by [] (Some (Made 0 first))) kept (none-again (Some first))
      by serial (Some (Own n)) e kept =
          let worked = is_worked serial (get_or shelf.tracks n nothing_kept) (get_or tracks n nothing_kept) kept in
          let same = away serial n e in
          let r = again n in
          grind (arith, nat_tests)

      pack : (serial : List ℕ) → IsPackOf (life_of (pack_key gtin serial) whole) (record shelf { tracks = tracks }) serial
      pack serial = record { kept = by serial (lookup (bytes_eq serial) shelf.slots) refl (of.packs serial).kept; listed = grind (arith, first-stays serial, (of.packs serial).listed) }

  -- a product with no shelf has no pack
  pub shelf-empty : AreShelfOf front gtin no_shelf → AreShelfOf whole gtin no_shelf
  shelf-empty of = record { slots = record { hashes = refl; named = tt; distinct = of.slots.distinct }; shelf = shelf-again (λ number. true) (shelf_by front no_shelf) [] (λ number. none-again None) (λ serial number e h. absurd (true≢false h)) of.shelf }

-- a track that was worked out again may be so once more
pub refreshed_more : (log : List LogEntry) (stops : FirstStops) (gtin : List ℕ) (b c d : Bool) (was mid now : Kept) → IsRefreshed log stops gtin b was mid → IsRefreshed log stops gtin c mid now → d ≡ (b || c) → IsRefreshed log stops gtin d was now
refreshed_more log stops gtin b c d was mid now first then e = grind (arith, nat_tests)
