-- Lemmas on the last master of a code, and on the table that finds it.
use Rattle.mv_repository.proofs.Words.{Ascends, Bool, IfSome, Item, List, LogEntry, Master, Message, None, Option, Placed, Product, Some, [], ap, arith, bytes_eq, cond, cond_both, entry_at, false, filter, filter_map, get_or, is_master, is_some, last_or, length, lookup, message_in, nat_tests, no_entry, option_and_then, option_map, option_map_or, ordered, passes, place_of, product_of, product_under, put_in, refl, rules, same_text, sym, take, true, ℕ, ◌+◌, ◌∙◌, ◌∷◌, ◌≡◌, AreFirstsOf, is_same_batch, is_recall_of, is_withdrawal_of, recalled_in, withdrawn_in, ◌≤◌, ◌<◌, ◌*◌, subst, Result, OnOk, OnErr, Upload, Status, Recall, Withdraw, Standing, CivilDate, BatchKey, PackKey, uploaded_in, uploaded_packs, is_status_of, AreShelfOf, ShelfParts, shelf_of, Stops, first_stops, AreStopsOf, AreTablesOf, Tables, IsOfProduct, serials_uploaded, length-map}
use Rattle.mv_repository.proofs.OrderLemmas.{still-stand, passes_behind, ordered-ascends, ordered-stand, last-all}
use Rattle.mv_repository.proofs.TableLemmas.{AreMastersOf, longer, newest, newest-stands, at-newest, filter-ascends, filter-more, filter-none, filter-stand, found-more, NoPack, StopsNone, first-same, log-length, log-split, stops-stay}
use Rattle.mv_repository.proofs.KeptLemmas.{pack-self, text-self}
use Rattle.mv_repository.proofs.SlotLemmas.{AreSamePacks, IsShelved, serials-at, shelf-kept, shelves-follow}
use Rattle.mv_repository.proofs.StopLemmas.{NoMaster}
use Rattle.mv_repository.proofs.UploadLemmas.{life-same, named-longer, product-upload, status-away, upload-away, upload-form}
use Rattle.mv_repository.proofs.TrackLemmas.{status-form}

-- the product that a message describes, and that an item does
abbrev product_of_message : Message → Option Product
product_of_message (Master named product) = Some product
product_of_message _ = None

abbrev pub product_in : Item → Option Product
product_in item = option_and_then product_of_message (message_in item)

-- the newest entry stands before the last so far, by their places
abbrev pub comes_late : List LogEntry → ℕ → Option ℕ → Bool
comes_late log new last = option_map_or (λ one. passes (entry_at log new) (entry_at log one)) last false

-- the last of x, which came last, and the last before
abbrev later : Placed → Option Placed → Option Placed
later x None = Some x
later x (Some y) = cond (passes x y) (Some y) (Some x)

-- what passes an entry passes the last behind it
passed-last : (x y : Placed) (ys : List Placed) → passes x y ≡ true → Ascends (y ∷ ys) → later x (last_or (Some y) ys) ≡ last_or (Some y) ys
passed-last x y [] e a = ap (λ b. cond b (Some y) (Some x)) e
passed-last x y (z ∷ zs) e a = grind (arith, nat_tests, passed-last x z zs (passes_behind x y z e a.0.0) a.1)

-- the last once one more entry is put in its place, which does not pass what stands in front
last-put_in : (x : Placed) (last : Option Placed) (xs : List Placed) → IfSome last (λ y. passes x y ≡ false) → Ascends xs → last_or last (put_in x xs) ≡ later x (last_or last xs)
last-put_in x None [] e a = refl
last-put_in x (Some y) [] e a = sym (ap (λ b. cond b (Some y) (Some x)) e)
last-put_in x last (y ∷ ys) e a =
    cond_both (passes x y) (x ∷ y ∷ ys) (y ∷ put_in x ys) (λ l. last_or last l ≡ later x (last_or (Some y) ys)) (λ h. sym (passed-last x y ys h a)) (λ h. last-put_in x (Some y) ys h a.1)

-- the last that passes a test, in the order of stamps
abbrev last_in : List LogEntry → (Placed → Bool) → Option Placed
last_in log test = last_or None (filter test (ordered log))

last-none : (f : Placed → Bool) (log : List LogEntry) (entry : LogEntry) → f (newest log entry) ≡ false → last_in (longer log entry) f ≡ last_in log f
last-none f log entry h = ap (last_or None) (filter-none f log entry h)

last-some : (f : Placed → Bool) (log : List LogEntry) (entry : LogEntry) → f (newest log entry) ≡ true → last_in (longer log entry) f ≡ later (newest log entry) (last_in log f)
last-some f log entry h = grind (arith, nat_tests, filter-ascends, filter-more, last-put_in, ordered-ascends)

-- the product under a code is that of the last master
product_is : (gtin : List ℕ) (item : Item) → product_under gtin item ≡ cond (is_master gtin item) (product_in item) None
product_is gtin item = grind (arith, nat_tests)

product_some : (gtin : List ℕ) (item : Item) → is_master gtin item ≡ true → is_some (product_in item) ≡ true
product_some gtin item e = grind (arith, nat_tests)

product_of_last : (gtin : List ℕ) (last : Option Placed) (xs : List Placed)
    → last_or (option_and_then (λ y. product_in y.entry.item) last) (filter_map (λ placed. product_under gtin placed.entry.item) xs)
    ≡ option_and_then (λ y. product_in y.entry.item) (last_or last (filter (λ placed. is_master gtin placed.entry.item) xs))
product_of_last gtin last [] = refl
product_of_last gtin last (y ∷ ys) = grind (arith, nat_tests, product_is gtin y.entry.item, product_some gtin y.entry.item, product_of_last gtin last ys, product_of_last gtin (Some y) ys)

-- what the table finds is the last master
pub product_found : (log : List LogEntry) (masters : List (List ℕ × ℕ)) (gtin : List ℕ) → AreMastersOf log masters → option_and_then (λ place. product_in (entry_at log place).entry.item) (lookup (bytes_eq gtin) masters) ≡ product_of log gtin
product_found log masters gtin places = grind (arith, nat_tests, last-all (λ y. get_or log y.place no_entry ≡ y.entry) None (filter (λ placed. is_master gtin placed.entry.item) (ordered log)) tt (filter-stand (λ placed. is_master gtin placed.entry.item) log (ordered log) (ordered-stand log)), product_of_last gtin None (ordered log))

-- an entry that is no master leaves the table as it should be
pub masters-noted : (log : List LogEntry) (masters : List (List ℕ × ℕ)) (entry : LogEntry) → AreMastersOf log masters
    → ((gtin : List ℕ) → is_master gtin entry.item ≡ false) → AreMastersOf (longer log entry) masters
masters-noted log masters entry places none gtin = grind (arith, nat_tests, last-none)

master_names : (gtin : List ℕ) (item : Item) → is_master gtin item ≡ true → (other : List ℕ) → is_master other item ≡ bytes_eq gtin other
master_names gtin item h1 other = search rules

-- a table that has the place of the last master of the code of the newest
masters-more : (log : List LogEntry) (entry : LogEntry) (gtin : List ℕ) (masters masters' : List (List ℕ × ℕ)) → is_master gtin entry.item ≡ true → AreMastersOf log masters
    → (now : Option ℕ) → ((other : List ℕ) → lookup (bytes_eq other) masters' ≡ cond (bytes_eq gtin other) now (lookup (bytes_eq other) masters))
    → now ≡ cond (comes_late (longer log entry) (length log) (lookup (bytes_eq gtin) masters)) (lookup (bytes_eq gtin) masters) (Some (length log)) → AreMastersOf (longer log entry) masters'
masters-more log entry gtin masters masters' own places now looks is =
    found-more bytes_eq is_master log entry (last_in log) (last_in (longer log entry)) gtin (λ other h. same_text gtin other (sym h)) (master_names gtin entry.item own)
    (λ test none. last-none test log entry none) masters masters' now looks
    (is ∙ (λ i. cond (comes_late (longer log entry) (length log) (places gtin i)) (places gtin i) (Some (length log)))
    ∙ by (last_in log test) (last-all (λ y. get_or (longer log entry) y.place no_entry ≡ y.entry) None (filter test (ordered log)) tt (filter-stand test (longer log entry) (ordered log) (still-stand log entry)))
    ∙ ap (option_map place_of) (sym (last-some test log entry own))) places
  where
    test : Placed → Bool
    test placed = is_master gtin placed.entry.item

    by : (o : Option Placed) → IfSome o (λ y. get_or (longer log entry) y.place no_entry ≡ y.entry)
        → cond (comes_late (longer log entry) (length log) (option_map place_of o)) (option_map place_of o) (Some (length log)) ≡ option_map place_of (later (newest log entry) o)
    by o s = grind (arith, nat_tests, newest-stands)

-- the same by the place of the newest entry
module _ (whole : List LogEntry) (place : ℕ) (masters : List (List ℕ × ℕ)) (gtin : List ℕ) (l : length whole ≡ place + 1)
    (own : is_master gtin (get_or whole place no_entry).item ≡ true) (places : AreMastersOf (take place whole) masters) where
  masters-now : (masters' : List (List ℕ × ℕ)) (now : Option ℕ) → ((other : List ℕ) → lookup (bytes_eq other) masters' ≡ cond (bytes_eq gtin other) now (lookup (bytes_eq other) masters))
      → now ≡ cond (comes_late whole place (lookup (bytes_eq gtin) masters)) (lookup (bytes_eq gtin) masters) (Some place) → AreMastersOf whole masters'
  masters-now masters' now looks =
      at-newest whole place l (λ w n. now ≡ cond (comes_late w n (lookup (bytes_eq gtin) masters)) (lookup (bytes_eq gtin) masters) (Some n) → AreMastersOf w masters')
      (masters-more (take place whole) (get_or whole place no_entry) gtin masters masters' own places now looks)

  -- a master that comes late leaves the table
  pub masters-late-at : comes_late whole place (lookup (bytes_eq gtin) masters) ≡ true → AreMastersOf whole masters
  masters-late-at late = masters-now masters (lookup (bytes_eq gtin) masters) (λ other. grind (arith, nat_tests, same_text gtin other)) (sym (ap (λ b. cond b (lookup (bytes_eq gtin) masters) (Some place)) late))

  -- any other takes the place of its code
  pub masters-latest-at : (masters' : List (List ℕ × ℕ)) → comes_late whole place (lookup (bytes_eq gtin) masters) ≡ false
      → ((other : List ℕ) → lookup (bytes_eq other) masters' ≡ cond (bytes_eq gtin other) (Some place) (lookup (bytes_eq other) masters)) → AreMastersOf whole masters'
  masters-latest-at masters' late looks = masters-now masters' (Some place) looks (sym (ap (λ b. cond b (lookup (bytes_eq gtin) masters) (Some place)) late))

-- ---- What the tables are after one more entry, by its form

-- what holds where a call ends well, and what holds where it fails
pub on_map : {A E P Q : Type 0} → (r : Result A E) → OnOk r P → (P → Q) → OnOk r Q
on_map r p f = grind (arith, nat_tests)

pub on_both : {A E P Q R : Type 0} → (r : Result A E) → OnOk r P → OnOk r Q → (P → Q → R) → OnOk r R
on_both r p q f = grind (arith, nat_tests)

pub map_err : {A E P Q : Type 0} → (r : Result A E) → OnErr r P → (P → Q) → OnErr r Q
map_err r p f = grind (arith, nat_tests)

pub on_err : {A E : Type 0} → (r : Result A E) (P : Type 0) → P → OnErr r P
on_err r P p = grind (arith, nat_tests)

pub master-form : (gtin : List ℕ) (item : Item) → is_master gtin item ≡ true → NoPack item × StopsNone item
master-form gtin item e = grind (arith, nat_tests)

-- an item that no table has
abbrev pub IsNoted : Item → Type 0
IsNoted item = NoPack item × StopsNone item × NoMaster item

pub none-noted : (item : Item) → message_in item ≡ None → IsNoted item
none-noted item e = grind (arith, nat_tests)

pub other-noted : (item : Item) (m : Message) → message_in item ≡ Some m → ((gtin : List ℕ) (product : Product) → m ≡ Master gtin product → ⊥) → ((gtin batch : List ℕ) (expiry : CivilDate) (national : Option (List ℕ)) (serials : List (List ℕ)) → m ≡ Upload gtin batch expiry national serials → ⊥)
    → ((key : PackKey) (to : Standing) (user : List ℕ) (at : ℕ) → m ≡ Status key to user at → ⊥) → ((key : BatchKey) (at : ℕ) → m ≡ Recall key at → ⊥) → ((gtin : List ℕ) (at : ℕ) → m ≡ Withdraw gtin at → ⊥) → IsNoted item
other-noted item m is a b c d e = grind (arith, nat_tests)

-- an item by the message that it carries: a master, and a status of a pack
pub master-in : (item : Item) (m : Message) (gtin : List ℕ) (product : Product) → Some m ≡ message_in item → m ≡ Master gtin product → is_master gtin item ≡ true
master-in item m gtin product e is = grind (arith, nat_tests, text-self gtin)

pub status-in : (item : Item) (m : Message) (key : PackKey) (to : Standing) (user : List ℕ) (at : ℕ) → Some m ≡ message_in item → m ≡ Status key to user at → is_status_of key item ≡ true
status-in item m key to user at e is = grind (arith, nat_tests, pack-self key)

pub uploaded-count : (item : Item) → length (uploaded_in item) ≡ length (serials_uploaded item)
uploaded-count item = grind (arith, nat_tests, length-map)

-- the same by the place of the newest entry
module _ (whole : List LogEntry) (place : ℕ) (l : length whole ≡ place + 1) where
  abbrev log : List LogEntry
  log = take place whole

  abbrev entry : LogEntry
  entry = get_or whole place no_entry

  -- where it uploads packs of a product, or changes one, it bears on no stop, on no master, and on no other product
  pub product-follows : (gtin : List ℕ) (m : Message) → message_in entry.item ≡ Some m → IsOfProduct gtin m
      → StopsNone entry.item × NoMaster entry.item × ((other : List ℕ) → bytes_eq gtin other ≡ false → AreSamePacks whole log other)
  product-follows gtin (Upload named batch expiry national serials) e own =
      let upload = product-upload entry.item (Upload named batch expiry national serials) gtin named batch expiry national serials serials e own refl refl in
      let form = upload-form entry.item gtin serials upload in
      (form.1, form.2, upload-away whole place gtin serials l upload)
  product-follows gtin (Status key to user at) e own =
      let status = status-in entry.item (Status key to user at) key to user at (sym e) refl in
      let form = status-form key entry.item status in
      (form.1, form.2, subst (λ (one : List ℕ). (other : List ℕ) → bytes_eq one other ≡ false → AreSamePacks whole log other) own (status-away whole place key l status))
  product-follows gtin _ e own = absurd own

  pub masters-at : (masters : List (List ℕ × ℕ)) → NoMaster entry.item → AreMastersOf log masters → AreMastersOf whole masters
  masters-at masters none are = at-newest whole place l (λ w n. AreMastersOf w masters) (masters-noted log masters entry are none)

  pub stops-at : (tables : Stops) → StopsNone entry.item → AreStopsOf log tables → AreStopsOf whole tables
  stops-at tables none are = at-newest whole place l (λ w n. AreStopsOf w tables) (stops-stay log entry tables none are)

  pub same-at : StopsNone entry.item → first_stops (ordered whole) ≡ first_stops (ordered log)
  same-at none = at-newest whole place l (λ w n. first_stops (ordered w) ≡ first_stops (ordered log)) (first-same log entry none)

  -- what is kept of packs, where the entry names none and the first stops are as they were
  pub shelves-at : (shelves : List (List ℕ × ShelfParts)) → NoPack entry.item → first_stops (ordered whole) ≡ first_stops (ordered log) → ((gtin : List ℕ) → AreShelfOf log gtin (shelf_of gtin shelves)) → (gtin : List ℕ) → AreShelfOf whole gtin (shelf_of gtin shelves)
  shelves-at shelves none same are gtin = let split = log-split whole place l in
      shelf-kept whole place gtin (shelf_of gtin shelves) ((λ serial. grind (arith, nat_tests, life-same, none.0)), serials-at whole place gtin [] l (none.2 gtin)) (are gtin)

  -- a log of 2^32 entries at most, whose uploads name no more packs than 2^16 each
  abbrev AreFew : List LogEntry → Type 0
  AreFew w = (length (uploaded_packs w) ≤ 65536 * length w) × (length w ≤ 4294967296)

  pub few-more : length (uploaded_in entry.item) ≤ 65536 → place < 4294967296 → AreFew log → AreFew whole
  few-more own fits few = let more = named-longer log entry whole (log-split whole place l) in (omega (arith, more, log-length whole place l, few.0), omega arith)

  pub few-at : uploaded_in entry.item ≡ [] → place < 4294967296 → AreFew log → AreFew whole
  few-at none = few-more (omega (arith, ap length none))

  -- the tables, where the entry is a master
  pub tables-mastered : (old new : Tables) (gtin : List ℕ) → is_master gtin entry.item ≡ true → AreTablesOf log old → AreMastersOf whole new.masters.entries → new.stops ≡ old.stops → new.shelves ≡ old.shelves → place < 4294967296 → AreTablesOf whole new
  tables-mastered old new gtin own are masters stops shelves fits = let form = master-form gtin entry.item own in record {
    masters = masters;
    stops = subst (AreStopsOf whole) (sym stops) (stops-at old.stops form.1 are.stops);
    shelves = λ other. subst (AreShelfOf whole other) (λ i. shelf_of other (sym shelves i).entries) (shelves-at old.shelves.entries form.0 (same-at form.1) are.shelves other);
    few = few-at form.0.1 fits are.few;
  }

  -- the tables, where the entry is no master and the shelf of one product is written
  pub tables-follow : (old new : Tables) (gtin : List ℕ) (shelf : ShelfParts) → NoMaster entry.item → AreTablesOf log old → new.masters.entries ≡ old.masters.entries → AreStopsOf whole new.stops
      → IsShelved old.shelves.entries new.shelves.entries gtin shelf → AreShelfOf whole gtin shelf → ((other : List ℕ) → bytes_eq gtin other ≡ false → AreSamePacks whole log other)
      → AreFew whole → AreTablesOf whole new
  tables-follow old new gtin shelf none are same stops looks now away few = record {
    masters = subst (AreMastersOf whole) (sym same) (masters-at old.masters.entries none are.masters);
    stops = stops;
    shelves = shelves-follow old.shelves.entries new.shelves.entries gtin shelf looks whole log are.shelves now (λ other e parts. shelf-kept whole place other parts (away other e));
    few = few;
  }

  pub tables-noted : (tables : Tables) → place < 4294967296 → IsNoted entry.item → AreTablesOf log tables → AreTablesOf whole tables
  tables-noted tables fits noted are = grind (arith, nat_tests, masters-at tables.masters.entries noted.2 are.masters, few-at noted.0.1 fits are.few, shelves-at tables.shelves.entries noted.0 (same-at noted.1) are.shelves, stops-at)

-- tables whose entries are those of others
pub tables-same : (log : List LogEntry) (old new : Tables) → new.masters.entries ≡ old.masters.entries → new.stops.recalls.entries ≡ old.stops.recalls.entries → new.stops.withdrawals.entries ≡ old.stops.withdrawals.entries → new.shelves.entries ≡ old.shelves.entries → AreTablesOf log old → AreTablesOf log new
tables-same log old new masters recalls withdrawals shelves are = record {
  masters = subst (AreMastersOf log) (sym masters) are.masters;
  stops = record { recalls = subst (AreFirstsOf is_same_batch is_recall_of recalled_in log) (sym recalls) are.stops.recalls; withdrawals = subst (AreFirstsOf bytes_eq is_withdrawal_of withdrawn_in log) (sym withdrawals) are.stops.withdrawals };
  shelves = λ gtin. subst (λ entries. AreShelfOf log gtin (shelf_of gtin entries)) (sym shelves) (are.shelves gtin);
  few = are.few;
}
