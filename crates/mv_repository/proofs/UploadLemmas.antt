-- An upload in what is kept of one pack; and what bears on one product and no other.
use Rattle.mv_repository.proofs.Words.{CivilDate, IsOfProduct, Message, message_in, AreStopsOf, Bool, IfSome, IsChanged, IsPackOf, IsPut, IsShelfOf, Item, Kept, Life, List, LogEntry, Option, PackKey, Placed, ShelfTable, Some, Stops, [], ap, arith, bytes_eq, comes_first, common_steps, cond, false, first_stops, first_upload, get_or, insert_key, is_listed, is_master, is_status_of, is_upload_of, kept_in, length, life_of, list_any, list_any_more, lookup, made_batch, nat_tests, no_entry, option_and_then, option_map, or-false, or-true, ordered, pack_key, place_of, refl, same_text, serials_uploaded, stops_in, subst, sym, take, kept_of, true, ℕ, ◌&&◌, ◌+◌, ◌<◌, ◌||◌, ◌∙◌, ◌∷◌, ◌≡◌, entry_at, ◌++◌, append-nil, length-append, not, is_some, find, filter, map, flat_map-append, length-map, take_more, filter-append, list_any-append, is_member-filter, IsEquivalence, nat_list_eq_equiv, flat_map, distinct_count, is_member, Carried, Upload, is_same_pack, uploaded_in, uploaded_packs, entries_before, put_in, has_pack, known_pack, is_before, list_any-IsPermutation, length-keys_of, length-from_keys, is_some-lookup, IsDistinct, last_or, keys_of, is_same_batch, BatchKey, mastered_in, recalled_in, is_recall_of, rules}
use Rattle.mv_repository.proofs.KeptLemmas.{life_batch, text-self, batch-sym, text-sym, IsUploadOf}
use Rattle.mv_repository.proofs.OrderLemmas.{ordered-stand, put_in-permutes, find-true, ordered-below, still-stand, by_entries, ordered-push}
use Rattle.mv_repository.proofs.StateLemmas.{find-stand}
use Rattle.mv_repository.proofs.TableLemmas.{at-newest, longer, find-later, find-none, find-some, filter-none, stops-stay, StopsNone, log-split, first-same, find-below, known-before, any-find, AreMastersOf, newest, newest-stands}
use Rattle.mv_repository.proofs.SlotLemmas.{serials-at, status-serials, AreSamePacks, upload-serials}
use Rattle.mv_repository.proofs.TrackLemmas.{status-form, track-is}

-- a serial number is among these
abbrev pub has : List (List ℕ) → List ℕ → Bool
has serials serial = list_any (λ one. bytes_eq one serial) serials

pub product-upload : (item : Item) (m : Message) (gtin named batch : List ℕ) (expiry : CivilDate) (national : Option (List ℕ)) (held serials : List (List ℕ)) → message_in item ≡ Some m → IsOfProduct gtin m
    → m ≡ Upload named batch expiry national held → serials ≡ held → IsUploadOf item gtin serials
product-upload item m gtin named batch expiry national held serials e own is same = grind (arith, nat_tests)

pub upload-form : (item : Item) (gtin : List ℕ) (serials : List (List ℕ)) → IsUploadOf item gtin serials → ((pack : PackKey) → is_status_of pack item ≡ false) × StopsNone item × ((code : List ℕ) → is_master code item ≡ false)
upload-form item gtin serials u = grind (arith, nat_tests)

pub upload-has : (item : Item) (gtin : List ℕ) (serials : List (List ℕ)) → IsUploadOf item gtin serials → (serial : List ℕ) → is_upload_of (pack_key gtin serial) item ≡ has serials serial
upload-has item gtin serials u serial = grind (arith, nat_tests, text-self)

pub upload-names : (item : Item) (gtin : List ℕ) (serials : List (List ℕ)) → IsUploadOf item gtin serials → serials_uploaded item ≡ serials
upload-names item gtin serials u = grind (arith, nat_tests)

-- a serial number is among those it is taken from
pub has-own : (xs : List (List ℕ)) (i : ℕ) → i < length xs → has xs (get_or xs i []) ≡ true
has-own xs i h1 = grind (arith, common_steps, text-self)

-- what is kept of a pack whose entries and first stops are as they were
pub life-same : (log : List LogEntry) (entry : LogEntry) (pack : PackKey) → is_upload_of pack entry.item ≡ false → is_status_of pack entry.item ≡ false
    → first_stops (ordered (longer log entry)) ≡ first_stops (ordered log) → life_of pack (longer log entry) ≡ life_of pack log
life-same log entry pack n s same = grind (arith, nat_tests, filter-none, find-none)

pub untouched : (log : List LogEntry) (entry : LogEntry) (pack : PackKey) → is_upload_of pack entry.item ≡ false → is_status_of pack entry.item ≡ false → StopsNone entry.item
    → life_of pack (longer log entry) ≡ life_of pack log
untouched log entry pack n s none = life-same log entry pack n s (first-same log entry none)

-- the packs of a product are those of a log; of two logs those of the first, where the pack is among these, else of the second
abbrev pub ArePacksOf : List LogEntry → List LogEntry → List (List ℕ) → List ℕ → ShelfTable → Type 0
ArePacksOf now before done gtin shelf = (serial : List ℕ) → IsPackOf (life_of (pack_key gtin serial) (cond (has done serial) now before)) shelf serial

-- the batch of the upload at its place
pub batch-there : (log : List LogEntry) (o : Option Placed) → IfSome o (λ x. get_or log x.place no_entry ≡ x.entry)
    → option_and_then (λ place. made_batch (entry_at log place)) (option_map place_of o) ≡ option_and_then made_batch o
batch-there log o h = grind (arith, nat_tests)

-- an upload that names a pack is its first, or leaves it; by the log in front of the upload, or with it
abbrev IsBorn : PackKey → List LogEntry → List LogEntry → ℕ → Type 0
IsBorn pack log whole place = (done : Bool) →
    (cond (comes_first whole place (kept_of (life_of pack (cond done whole log))).birth) (Some place) (kept_of (life_of pack (cond done whole log))).birth ≡ (kept_of (life_of pack whole)).birth)
    × ((kept_of (life_of pack (cond done whole log))).statuses ≡ (kept_of (life_of pack whole)).statuses)
    × (comes_first whole place (kept_of (life_of pack (cond done whole log))).birth ≡ false → life_of pack (cond done whole log) ≡ life_of pack whole)

is-born : (log : List LogEntry) (entry : LogEntry) (pack : PackKey) → is_upload_of pack entry.item ≡ true → is_status_of pack entry.item ≡ false → StopsNone entry.item
    → IsBorn pack log (longer log entry) (length log)
is-born log entry pack own s none true = let birth = find-some (λ placed. is_upload_of pack placed.entry.item) log entry own in
    (grind (arith, nat_tests, birth), refl, λ e. refl)
is-born log entry pack own s none false = (sym (find-some (λ placed. is_upload_of pack placed.entry.item) log entry own), grind (arith, nat_tests, filter-none), λ e. grind (arith, nat_tests, filter-none, find-later (λ placed. is_upload_of pack placed.entry.item) log entry e, first-same log entry none))

module _ (whole : List LogEntry) (place : ℕ) (l : length whole ≡ place + 1) (tables : Stops) (gtin : List ℕ) (serials : List (List ℕ))
    (stops : AreStopsOf (take place whole) tables) (upload : IsUploadOf (get_or whole place no_entry).item gtin serials) where
  abbrev log : List LogEntry
  log = take place whole

  abbrev entry : LogEntry
  entry = get_or whole place no_entry

  still : AreStopsOf whole tables
  still = at-newest whole place l (λ w n. AreStopsOf w tables) (stops-stay log entry tables (upload-form entry.item gtin serials upload).1 stops)

  -- a pack that has the upload, or has it not yet
  is-uploaded : (serial : List ℕ) → has serials serial ≡ true → (done : Bool) (old new : ShelfTable) → IsPackOf (life_of (pack_key gtin serial) (cond done whole log)) old serial
      → IsPut whole (stops_in whole tables) gtin place serial old new → IsPackOf (life_of (pack_key gtin serial) whole) new serial
  is-uploaded serial among done old new of put = by (comes_first whole place (kept_in old serial).birth) refl
    where
      pack : PackKey
      pack = pack_key gtin serial

      born : IsBorn pack log whole place
      born = at-newest whole place l (IsBorn pack log) (is-born log entry pack (upload-has entry.item gtin serials upload serial ∙ among)
          ((upload-form entry.item gtin serials upload).0 pack) (upload-form entry.item gtin serials upload).1)

      first : comes_first whole place (kept_of (life_of pack (cond done whole log))).birth ≡ comes_first whole place (kept_in old serial).birth
      first = sym (ap (λ (k : Kept). comes_first whole place k.birth) of.kept.bare)

      by : (b : Bool) → comes_first whole place (kept_in old serial).birth ≡ b → IsPackOf (life_of pack whole) new serial
      by false e =
          subst (λ (shelf : ShelfTable). IsPackOf (life_of pack whole) shelf serial) (sym (put.later e)) (subst (λ (life : Life). IsPackOf life old serial) ((born done).2 (first ∙ e)) of)
      by true e =
          let birth : Some place ≡ (kept_of (life_of pack whole)).birth = sym (ap (λ b. cond b (Some place) (kept_of (life_of pack (cond done whole log))).birth) (first ∙ e)) ∙ (born done).0 in
          record {
            kept = track-is whole tables pack (kept_in new serial) still ((put.again e).birth ∙ birth)
                ((put.again e).statuses ∙ ap (λ (k : Kept). k.statuses) of.kept.bare ∙ (born done).1) (put.again e).worked;
            listed = subst (λ (o : Option (List ℕ)). IfSome o (λ batch. is_listed new.listing (lookup (bytes_eq serial) new.slots) batch ≡ true))
                (ap (option_and_then (λ place. made_batch (entry_at whole place))) birth
                ∙ batch-there whole (first_upload pack (ordered whole)) (find-stand (λ placed. is_upload_of pack placed.entry.item) whole (ordered whole) (ordered-stand whole))) (put.listed e);
          }

  -- one serial number more
  pub upload-adds : (at : ℕ) (old new : ShelfTable) (serial : List ℕ) → at < length serials → serial ≡ get_or serials at [] → ArePacksOf whole log (take at serials) gtin old
      → IsPut whole (stops_in whole tables) gtin place serial old new → ArePacksOf whole log (take (at + 1) serials) gtin new
  upload-adds at old new serial within is are put other =
      subst Now (sym (list_any_more (λ one. bytes_eq one other) serials at [] within ∙ ap (λ one. has (take at serials) other || bytes_eq one other) (sym is))) (by (bytes_eq serial other) refl)
    where
      Now : Bool → Type 0
      Now done = IsPackOf (life_of (pack_key gtin other) (cond done whole log)) new other

      by : (t : Bool) → bytes_eq serial other ≡ t → Now (has (take at serials) other || t)
      by true e =
          subst Now (sym (or-true (has (take at serials) other))) (subst (λ (one : List ℕ). IsPackOf (life_of (pack_key gtin one) whole) new one) (same_text serial other (sym e))
          (is-uploaded serial (ap (has serials) is ∙ has-own serials at within) (has (take at serials) serial) old new (are serial) put))
      by false e = subst Now (sym (or-false (has (take at serials) other))) (put.changed.others other _ e (are other))

  -- once all have it, each pack is as the longer log means it
  pub upload-all : (shelf : ShelfTable) → ArePacksOf whole log serials gtin shelf → (serial : List ℕ) → IsPackOf (life_of (pack_key gtin serial) whole) shelf serial
  upload-all shelf are serial = subst (λ (life : Life). IsPackOf life shelf serial) (by (has serials serial) refl) (are serial)
    where
      by : (b : Bool) → has serials serial ≡ b → life_of (pack_key gtin serial) (cond b whole log) ≡ life_of (pack_key gtin serial) whole
      by true h = refl
      by false h =
          sym (untouched log entry (pack_key gtin serial) (upload-has entry.item gtin serials upload serial ∙ h) ((upload-form entry.item gtin serials upload).0 (pack_key gtin serial)) (upload-form entry.item gtin serials upload).1)
          ∙ ap (life_of (pack_key gtin serial)) (sym (log-split whole place l))

-- so is that of the first upload of a pack
pub batch-noted : (whole : List LogEntry) (pack : PackKey) → option_and_then (λ place. made_batch (entry_at whole place)) (kept_of (life_of pack whole)).birth ≡ life_batch (life_of pack whole)
batch-noted whole pack = batch-there whole (first_upload pack (ordered whole)) (find-stand (λ placed. is_upload_of pack placed.entry.item) whole (ordered whole) (ordered-stand whole))

-- a status leaves the other packs of its product, and the upload of its own
module _ (whole : List LogEntry) (place : ℕ) (pack : PackKey) (l : length whole ≡ place + 1) (own : is_status_of pack (get_or whole place no_entry).item ≡ true) where
  abbrev before : List LogEntry
  before = take place whole

  first-stays : first_upload pack (ordered whole) ≡ first_upload pack (ordered before)
  first-stays = grind (arith, nat_tests, find-none, log-split whole place l, status-form pack (get_or whole place no_entry).item own)

  pub batch-kept : life_batch (life_of pack whole) ≡ life_batch (life_of pack before)
  batch-kept = ap (option_and_then made_batch) first-stays

  pub status-others : (old new : ShelfTable) → IsShelfOf before pack.gtin old → IsChanged pack.serial old new → IsPackOf (life_of pack whole) new pack.serial → IsShelfOf whole pack.gtin new
  status-others old new are changed now = record {
    packs = λ serial. by serial (bytes_eq pack.serial serial) refl;
    serials = changed.keys ∙ ap (λ (serials : List (List ℕ)). insert_key bytes_eq serials pack.serial) are.serials
        ∙ sym (serials-at whole place pack.gtin (pack.serial ∷ []) l (status-serials pack.gtin pack (get_or whole place no_entry).item own ∙ ap (λ b. cond b (pack.serial ∷ []) []) (text-self pack.gtin)));
  }
    where
      by : (serial : List ℕ) (b : Bool) → bytes_eq pack.serial serial ≡ b → IsPackOf (life_of (pack_key pack.gtin serial) whole) new serial
      by serial true e = subst (λ (s : List ℕ). IsPackOf (life_of (pack_key pack.gtin s) whole) new s) (same_text pack.serial serial (sym e)) now
      by serial false e = let form = status-form pack (get_or whole place no_entry).item own in
          let only = form.0 (pack_key pack.gtin serial) in
          subst (λ (l : Life). IsPackOf l new serial)
          (sym (untouched before (get_or whole place no_entry) (pack_key pack.gtin serial) only.0 (only.1 ∙ (λ i. text-self pack.gtin i && e i)) form.1)
          ∙ ap (life_of (pack_key pack.gtin serial)) (sym (log-split whole place l))) (changed.others serial (life_of (pack_key pack.gtin serial) before) e (are.packs serial))

-- an upload, and a status, of one product bears on no other
pub upload-away : (whole : List LogEntry) (place : ℕ) (gtin : List ℕ) (serials : List (List ℕ)) → length whole ≡ place + 1 → IsUploadOf (get_or whole place no_entry).item gtin serials
    → (other : List ℕ) → bytes_eq gtin other ≡ false → AreSamePacks whole (take place whole) other
upload-away whole place gtin serials l upload other e = (
  λ serial. ap (life_of (pack_key other serial)) (log-split whole place l) ∙ untouched (take place whole) entry (pack_key other serial) (is serial entry.item upload)
      ((upload-form entry.item gtin serials upload).0 (pack_key other serial)) (upload-form entry.item gtin serials upload).1,
  serials-at whole place other [] l (upload-serials other gtin serials entry.item upload ∙ ap (λ b. cond b serials []) e),
)
  where
    entry : LogEntry
    entry = get_or whole place no_entry

    is : (serial : List ℕ) (item : Item) → IsUploadOf item gtin serials → is_upload_of (pack_key other serial) item ≡ false
    is serial item u = grind (arith, nat_tests)

pub status-away : (whole : List LogEntry) (place : ℕ) (pack : PackKey) → length whole ≡ place + 1 → is_status_of pack (get_or whole place no_entry).item ≡ true
    → (other : List ℕ) → bytes_eq pack.gtin other ≡ false → AreSamePacks whole (take place whole) other
status-away whole place pack l own other e = (
  λ serial.
      let form = status-form pack (get_or whole place no_entry).item own in
      let only = form.0 (pack_key other serial) in
      ap (life_of (pack_key other serial)) (log-split whole place l)
      ∙ untouched (take place whole) (get_or whole place no_entry) (pack_key other serial) only.0 (only.1 ∙ (λ i. e i && bytes_eq pack.serial serial)) form.1,
  serials-at whole place other [] l (status-serials other pack (get_or whole place no_entry).item own ∙ ap (λ b. cond b (pack.serial ∷ []) []) e),
)

-- ---- Uploads: which packs a log names, and how many of those that an upload names are new; and the counts of a log that its tables of keys give

-- the order of stamps has one of a kind where the log has

any-put_in : (f : Placed → Bool) (x : Placed) (xs : List Placed) → list_any f (put_in x xs) ≡ (f x || list_any f xs)
any-put_in f x xs = sym (list_any-IsPermutation f (x ∷ xs) (put_in x xs) (put_in-permutes x xs))

pub any-ordered : (f : Item → Bool) (log : List LogEntry) → list_any (λ placed. f placed.entry.item) (ordered log) ≡ list_any (λ entry. f entry.item) log
any-ordered f log =
    by_entries (λ log. list_any (λ placed. f placed.entry.item) (ordered log) ≡ list_any (λ entry. f entry.item) log) refl (λ log entry h. grind (arith, nat_tests, any-put_in, h, list_any-append, ordered-push)) log

-- the keys that a log's items name
pub any-flat : {K : Type 0} → (f : K → Bool) (names : Item → List K) (g : Item → Bool) → ((item : Item) → list_any f (names item) ≡ g item) → (log : List LogEntry)
    → list_any f (flat_map (λ (entry : LogEntry). names entry.item) log) ≡ list_any (λ (entry : LogEntry). g entry.item) log
any-flat f names g same [] = refl
any-flat f names g same (entry ∷ log) = list_any-append f (names entry.item) (flat_map (λ (entry : LogEntry). names entry.item) log) ∙ (λ i. same entry.item i || any-flat f names g same log i)

pub uploaded-is : (pack : PackKey) (item : Item) → list_any (is_same_pack pack) (uploaded_in item) ≡ is_upload_of pack item
uploaded-is pack (Carried k stamp (Upload gtin batch expiry national serials)) = packs serials
  where
    packs : (serials : List (List ℕ)) → list_any (is_same_pack pack) (map (pack_key gtin) serials) ≡ has_pack gtin serials pack
    packs [] = elim (bytes_eq gtin pack.gtin) as (λ b. false ≡ (b && false)) [ true ↦ refl | false ↦ refl ]
    packs (serial ∷ rest) = grind (arith, nat_tests, packs rest, text-sym)
uploaded-is pack _ = refl

pub some-map : {A B : Type 0} → (f : A → B) (o : Option A) → is_some (option_map f o) ≡ is_some o
some-map f o = grind (arith, nat_tests)

pub found-any : (f : Placed → Bool) (xs : List Placed) → is_some (option_map place_of (find f xs)) ≡ list_any f xs
found-any f xs = some-map place_of (find f xs) ∙ sym (any-find f xs)

pub uploaded-any : (log : List LogEntry) (pack : PackKey) → is_member is_same_pack (uploaded_packs log) pack ≡ list_any (λ (entry : LogEntry). is_upload_of pack entry.item) log
uploaded-any log pack = any-flat (is_same_pack pack) uploaded_in (is_upload_of pack) (uploaded-is pack) log

-- a pack has a first upload where a log names it
pub uploaded-found : (log : List LogEntry) (pack : PackKey) → is_some (kept_of (life_of pack log)).birth ≡ is_member is_same_pack (uploaded_packs log) pack
uploaded-found log pack = grind (arith, nat_tests, any-ordered (is_upload_of pack) log, found-any, uploaded-any)

-- the newest entry comes first of its kind where none of the kind stands before it
pub first-effect : (f : Placed → Bool) (log : List LogEntry) (entry : LogEntry) (first : Option ℕ) → first ≡ option_map place_of (find f (ordered log))
    → comes_first (longer log entry) (length log) first ≡ not (is_before (find f (ordered log)) (newest log entry))
first-effect f log entry first e = let stand = find-stand f (longer log entry) (ordered log) (still-stand log entry) in
    let below = find-below f (length log) (ordered log) (ordered-below log) in
    grind (arith, nat_tests, newest-stands)

-- a pack is absent before the newest entry where that comes before its first upload
pub absent-before : (log : List LogEntry) (entry : LogEntry) (pack : PackKey)
    → comes_first (longer log entry) (length log) (kept_of (life_of pack log)).birth ≡ not (is_some (known_pack pack (entries_before log entry)))
absent-before log entry pack =
    let stand = find-stand (λ placed. is_upload_of pack placed.entry.item) (longer log entry) (ordered log) (still-stand log entry) in
    let own = find-true (λ y. is_upload_of pack y.entry.item) (ordered log) in
    grind (arith, nat_tests, known-before, newest-stands)

module _ {K : Type 0} (eq : K → K → Bool) (laws : IsEquivalence eq) where
  -- one key more, counted once
  pub distinct_push : (xs : List K) (y : K) → distinct_count eq (xs ++ y ∷ []) ≡ distinct_count eq xs + cond (is_member eq xs y) 0 1
  distinct_push [] y = refl
  distinct_push (x ∷ xs) y = grind (arith, nat_tests, distinct_push xs y, list_any-append, or-false)

-- how many of these serial numbers, each counted once, are of packs that no entry makes that stands before the newest
abbrev pub new_count : List LogEntry → LogEntry → List ℕ → List (List ℕ) → ℕ
new_count log entry gtin serials = distinct_count bytes_eq (filter (λ serial. not (is_some (known_pack (pack_key gtin serial) (entries_before log entry)))) serials)

-- one serial number more
module _ (log : List LogEntry) (entry : LogEntry) (gtin : List ℕ) (serials : List (List ℕ)) (upload : IsUploadOf entry.item gtin serials) where
  abbrev pub More : List LogEntry → ℕ → Type 0
  More whole place = (at count : ℕ) (is_new : Bool) → at < length serials
      → is_new ≡ comes_first whole place (kept_of (life_of (pack_key gtin (get_or serials at [])) (cond (has (take at serials) (get_or serials at [])) whole log))).birth
      → count ≡ new_count log entry gtin (take at serials) → cond is_new (count + 1) count ≡ new_count log entry gtin (take (at + 1) serials)

  more_newest : More (longer log entry) (length log)
  more_newest i count is_new l e h = (λ j. cond ((e ∙ seen) j) (h j + 1) (h j)) ∙ counted-more
      ∙ ap (λ (xs : List (List ℕ)). distinct_count bytes_eq xs) (sym (ap (filter absent) (take_more serials i [] l) ∙ filter-append absent (take i serials) (s ∷ [])))
    where
      s : List ℕ
      s = get_or serials i []

      key : PackKey
      key = pack_key gtin s

      absent : List ℕ → Bool
      absent serial = not (is_some (known_pack (pack_key gtin serial) (entries_before log entry)))

      front : List (List ℕ)
      front = filter absent (take i serials)

      birth : (kept_of (life_of key (longer log entry))).birth ≡ cond (comes_first (longer log entry) (length log) (kept_of (life_of key log)).birth) (Some (length log)) (kept_of (life_of key log)).birth
      birth = find-some (λ placed. is_upload_of key placed.entry.item) log entry (upload-has entry.item gtin serials upload s ∙ has-own serials i l)

      seen : comes_first (longer log entry) (length log) (kept_of (life_of key (cond (has (take i serials) s) (longer log entry) log))).birth ≡ (not (has (take i serials) s) && absent s)
      seen = grind (arith, nat_tests, absent, absent-before, birth, key, longer, s)

      among : (xs : List (List ℕ)) → has xs s ≡ is_member bytes_eq xs s
      among [] = refl
      among (x ∷ xs) = λ j. (text-sym x s j || among xs j)

      has_is : has (take i serials) s ≡ is_member bytes_eq (take i serials) s
      has_is = among (take i serials)

      member : is_member bytes_eq front s ≡ (is_member bytes_eq (take i serials) s && absent s)
      member = is_member-filter nat_list_eq_equiv absent s (λ x e. ap absent (same_text s x (sym e))) (take i serials)

      counted-more : cond (not (has (take i serials) s) && absent s) (distinct_count bytes_eq front + 1) (distinct_count bytes_eq front)
          ≡ distinct_count bytes_eq (front ++ cond (absent s) (s ∷ []) [])
      counted-more = grind (arith, nat_tests, append-nil, distinct_push bytes_eq nat_list_eq_equiv front s, has_is, member)

  pub new-more : (whole : List LogEntry) (place : ℕ) → whole ≡ longer log entry → place ≡ length log → More whole place
  new-more whole place e n = subst (λ (w : List LogEntry). More w place) (sym e) (subst (λ (m : ℕ). More (longer log entry) m) (sym n) more_newest)

-- how many packs the uploads name, with one more entry
pub named-longer : (log : List LogEntry) (entry : LogEntry) (whole : List LogEntry) → whole ≡ longer log entry → length (uploaded_packs whole) ≡ length (uploaded_packs log) + length (uploaded_in entry.item)
named-longer log entry whole e = grind (arith, nat_tests, flat_map-append, length-append)

pub named-upload : (gtin : List ℕ) (serials : List (List ℕ)) (item : Item) → IsUploadOf item gtin serials → length (uploaded_in item) ≡ length serials
named-upload gtin serials item u = grind (arith, nat_tests, length-map)

mastered-is : (gtin : List ℕ) (item : Item) → list_any (bytes_eq gtin) (mastered_in item) ≡ is_master gtin item
mastered-is gtin item = grind (arith, nat_tests, text-sym)

recalled-is : (batch : BatchKey) (item : Item) → list_any (is_same_batch batch) (recalled_in item) ≡ is_recall_of batch item
recalled-is batch item = grind (arith, nat_tests, text-sym)

-- each key of one kind is in the table once, and in no other case
counted-once : {K : Type 0} {eq : K → K → Bool} → IsEquivalence eq → {X : Type 0} (es : List (K × X)) (xs : List K) → IsDistinct eq (keys_of es)
    → ((q : K) → is_some (lookup (eq q) es) ≡ is_member eq xs q) → length es ≡ distinct_count eq xs
counted-once {K} {eq} laws es xs distinct same = grind (arith, nat_tests, is_some-lookup, length-from_keys, length-keys_of)

last-found : (f : Placed → Bool) (last : Option Placed) (xs : List Placed) → is_some (last_or last (filter f xs)) ≡ (is_some last || list_any f xs)
last-found f last [] = grind (arith, nat_tests)
last-found f last (y ∷ ys) = grind (arith, nat_tests, last-found f last ys, last-found f (Some y) ys)

pub count-products : (log : List LogEntry) (masters : List (List ℕ × ℕ)) → IsDistinct bytes_eq (keys_of masters) → AreMastersOf log masters → length masters ≡ distinct_count bytes_eq (flat_map (λ entry. mastered_in entry.item) log)
count-products log masters distinct places = counted-once nat_list_eq_equiv masters (flat_map (λ entry. mastered_in entry.item) log) distinct
    (λ gtin. grind (arith, any-flat (bytes_eq gtin) mastered_in (is_master gtin) (mastered-is gtin) log, any-ordered (is_master gtin) log, last-found, places gtin, some-map))

batch-equiv : IsEquivalence is_same_batch
batch-equiv = search (rules, batch-sym)

pub count-recalled : (log : List LogEntry) (tables : Stops) → IsDistinct is_same_batch (keys_of tables.recalls.entries) → AreStopsOf log tables → length tables.recalls.entries ≡ distinct_count is_same_batch (flat_map (λ entry. recalled_in entry.item) log)
count-recalled log tables distinct stops =
    counted-once batch-equiv tables.recalls.entries (flat_map (λ entry. recalled_in entry.item) log) distinct
    (λ batch. grind (arith, any-flat (is_same_batch batch) recalled_in (is_recall_of batch) (recalled-is batch) log, any-ordered (is_recall_of batch) log, found-any, stops.recalls.found batch))
