-- What the tables are after one more entry of the log.
use Rattle.mv_repository.proofs.Words.{◌≡◌, ◌+◌, ◌∷◌, ◌++◌, bytes_eq, ℕ, zero, suc, arith, take, List, [], length, get_or, refl, sym, ◌∙◌, ap, Bool, true, false, cond, Option, Some, None, filter, find, map, get_or_push, length-take-le, lookup, option_map, Item, is_same_batch, BatchKey, LogEntry, recalled_in, serials_in, uploaded_in, Placed, passes, put_in, ordered, Ascends, is_recall_of, is_withdrawal_of, withdrawn_in, Stops, first_stops, stops_in, place_of, no_entry, AreFirstsOf, AreStopsOf, comes_first, entry_at, PackKey, is_upload_of, is_status_of, nat_tests, is_master, last_or, ◌<◌, not, IfSome, is_some, fold, list_any, AllByRecursion, entries_before, KnownPack, batch_standing, known_pack, FirstStops, is_before, standing_at, first_upload, statuses_of, pack_step, pack_grown}
use Rattle.mv_repository.proofs.OrderLemmas.{StandsBeforeAll, placed_at, ordered-ascends, ordered-push, Stand, still-stand, filter-all, AreBelow, ordered-below, find-all}
use Rattle.mv_repository.proofs.StateLemmas.{find-stand, find-stands, known-grown}
use Rattle.mv_repository.proofs.KeptLemmas.{once-all, no-recall, no-withdrawal}

-- a part of what ascends
pub filter-ascends : (f : Placed → Bool) (xs : List Placed) → Ascends xs → Ascends (filter f xs)
filter-ascends f [] a = tt
filter-ascends f (y ∷ ys) a = grind (arith, nat_tests, filter-ascends f ys a.1, filter-all)

pub filter-stand : (f : Placed → Bool) (log : List LogEntry) (xs : List Placed) → Stand log xs → Stand log (filter f xs)
filter-stand f log xs s = filter-all (λ one. get_or log one.place no_entry ≡ one.entry) f xs s

-- where x goes in front of all of a list that ascends
passes_all : (f : Placed → Bool) (x y : Placed) (ys : List Placed) → passes x y ≡ true → StandsBeforeAll y ys → put_in x (filter f ys) ≡ x ∷ filter f ys
passes_all f x y [] e h = refl
passes_all f x y (z ∷ zs) e h = grind (arith, nat_tests, passes_all f x y zs e h.1)

-- the part of a list with one more put in its place
pub filter-put_in : (f : Placed → Bool) (x : Placed) (xs : List Placed) → Ascends xs → filter f (put_in x xs) ≡ cond (f x) (put_in x (filter f xs)) (filter f xs)
filter-put_in f x [] a = refl
filter-put_in f x (y ∷ ys) a = grind (arith, nat_tests, filter-put_in f x ys a.1, passes_all)

-- the earlier of the first and x
abbrev pub earlier : Placed → Option Placed → Option Placed
earlier x None = Some x
earlier x (Some y) = cond (passes x y) (Some x) (Some y)

-- the first of a list
abbrev pub first_in : List Placed → Option Placed
first_in [] = None
first_in (x ∷ xs) = Some x

pub find-first : (f : Placed → Bool) (xs : List Placed) → find f xs ≡ first_in (filter f xs)
find-first f [] = refl
find-first f (x ∷ xs) = grind (arith, nat_tests, find-first f xs)

-- places with the newest put in
abbrev pub put_place : List LogEntry → ℕ → List ℕ → List ℕ
put_place log new [] = new ∷ []
put_place log new (first ∷ rest) = cond (passes (entry_at log new) (entry_at log first)) (new ∷ first ∷ rest) (first ∷ put_place log new rest)

-- are those of the list with the newest put in
put_place-map : (log : List LogEntry) (x : Placed) (xs : List Placed) → get_or log x.place no_entry ≡ x.entry → Stand log xs → put_place log x.place (map place_of xs) ≡ map place_of (put_in x xs)
put_place-map log x [] e s = refl
put_place-map log x (y ∷ ys) e s = grind (arith, nat_tests, put_place-map log x ys e s.1)

-- a log with one more entry
abbrev pub longer : List LogEntry → LogEntry → List LogEntry
longer log entry = log ++ entry ∷ []

abbrev pub newest : List LogEntry → LogEntry → Placed
newest log entry = placed_at (length log) entry

pub newest-stands : (log : List LogEntry) (entry : LogEntry) → get_or (longer log entry) (length log) no_entry ≡ entry
newest-stands log entry = get_or_push log entry no_entry (length log) refl

pub log-split : (log : List LogEntry) (place : ℕ) → length log ≡ place + 1 → log ≡ longer (take place log) (get_or log place no_entry)
log-split [] place e = absurd (omega (arith, e))
log-split (first ∷ []) zero e = refl
log-split (first ∷ second ∷ rest) zero e = absurd (omega (arith, e))
log-split (first ∷ rest) (suc place) e = ap (λ (l : List LogEntry). first ∷ l) (log-split rest place (omega (arith, e)))

pub log-length : (log : List LogEntry) (place : ℕ) → length log ≡ place + 1 → place ≡ length (take place log)
log-length log place e = sym (length-take-le place log (omega (arith, e)))

-- what holds of a log with one more entry holds where the newest is known by its place
pub at-newest : (whole : List LogEntry) (place : ℕ) → length whole ≡ place + 1 → (P : List LogEntry → ℕ → Type 0)
    → P (longer (take place whole) (get_or whole place no_entry)) (length (take place whole)) → P whole place
at-newest whole place l P p = grind (arith, nat_tests, log-length, log-split)

pub filter-more : (f : Placed → Bool) (log : List LogEntry) (entry : LogEntry)
    → filter f (ordered (longer log entry)) ≡ cond (f (newest log entry)) (put_in (newest log entry) (filter f (ordered log))) (filter f (ordered log))
filter-more f log entry = ap (filter f) (ordered-push log entry) ∙ filter-put_in f (newest log entry) (ordered log) (ordered-ascends log)

pub find-more : (f : Placed → Bool) (log : List LogEntry) (entry : LogEntry)
    → find f (ordered (longer log entry)) ≡ cond (f (newest log entry)) (earlier (newest log entry) (find f (ordered log))) (find f (ordered log))
find-more f log entry = grind (arith, nat_tests, filter-more, find-first)

pub find-none : (f : Placed → Bool) (log : List LogEntry) (entry : LogEntry) → f (newest log entry) ≡ false → find f (ordered (longer log entry)) ≡ find f (ordered log)
find-none f log entry h = find-more f log entry ∙ ap (λ b. cond b (earlier (newest log entry) (find f (ordered log))) (find f (ordered log))) h

pub filter-none : (f : Placed → Bool) (log : List LogEntry) (entry : LogEntry) → f (newest log entry) ≡ false → filter f (ordered (longer log entry)) ≡ filter f (ordered log)
filter-none f log entry h = filter-more f log entry ∙ ap (λ b. cond b (put_in (newest log entry) (filter f (ordered log))) (filter f (ordered log))) h

pub find-some : (f : Placed → Bool) (log : List LogEntry) (entry : LogEntry) → f (newest log entry) ≡ true
    → option_map place_of (find f (ordered (longer log entry))) ≡ cond (comes_first (longer log entry) (length log) (option_map place_of (find f (ordered log)))) (Some (length log)) (option_map place_of (find f (ordered log)))
find-some f log entry h = grind (arith, nat_tests, find-more, find-stand f (longer log entry) (ordered log) (still-stand log entry), newest-stands)

-- an entry of a kind that is not the first of the kind leaves the first
pub find-later : (f : Placed → Bool) (log : List LogEntry) (entry : LogEntry) → comes_first (longer log entry) (length log) (option_map place_of (find f (ordered log))) ≡ false
    → find f (ordered (longer log entry)) ≡ find f (ordered log)
find-later f log entry e = grind (arith, nat_tests, find-more, find-stand f (longer log entry) (ordered log) (still-stand log entry), newest-stands)

pub filter-some : (f : Placed → Bool) (log : List LogEntry) (entry : LogEntry) → f (newest log entry) ≡ true
    → map place_of (filter f (ordered (longer log entry))) ≡ put_place (longer log entry) (length log) (map place_of (filter f (ordered log)))
filter-some f log entry h = grind (arith, nat_tests, filter-more, put_place-map (longer log entry) (newest log entry) (filter f (ordered log)) (newest-stands log entry) (filter-stand f (longer log entry) (ordered log) (still-stand log entry)))

-- what the tables of stops find is the first of each kind, also where the log is longer
pub stops-found : (whole log : List LogEntry) (tables : Stops) → Stand whole (ordered log) → AreStopsOf log tables → stops_in whole tables ≡ first_stops (ordered log)
stops-found whole log tables s stops = grind (arith, nat_tests, find-stands)

-- an item is no upload and no status of a pack
abbrev pub NamesNone : PackKey → Item → Type 0
NamesNone pack item = (is_upload_of pack item ≡ false) × (is_status_of pack item ≡ false)

-- and of none
abbrev pub NoPack : Item → Type 0
NoPack item = ((pack : PackKey) → NamesNone pack item) × (uploaded_in item ≡ []) × ((gtin : List ℕ) → serials_in gtin item ≡ [])

-- an entry that stops nothing leaves the first stops, and the tables of them
abbrev pub StopsNone : Item → Type 0
StopsNone item = ((batch : BatchKey) → is_recall_of batch item ≡ false) × ((gtin : List ℕ) → is_withdrawal_of gtin item ≡ false)

pub first-same : (log : List LogEntry) (entry : LogEntry) → StopsNone entry.item → first_stops (ordered (longer log entry)) ≡ first_stops (ordered log)
first-same log entry none = grind (arith, nat_tests, find-none)

-- a table that finds what is picked of each kind, once one more entry came that has one key of the kind, where this is found
pub found-more : {K : Type 0} (same : K → K → Bool) (is_of : K → Item → Bool) (log : List LogEntry) (entry : LogEntry) (pick pick' : (Placed → Bool) → Option Placed) (key : K)
    → ((other : K) → same key other ≡ true → key ≡ other) → ((k : K) → is_of k entry.item ≡ same key k)
    → ((f : Placed → Bool) → f (newest log entry) ≡ false → pick' f ≡ pick f)
    → (places places' : List (K × ℕ)) (now : Option ℕ) → ((k : K) → lookup (same k) places' ≡ cond (same key k) now (lookup (same k) places))
    → now ≡ option_map place_of (pick' (λ placed. is_of key placed.entry.item)) → ((k : K) → lookup (same k) places ≡ option_map place_of (pick (λ placed. is_of k placed.entry.item)))
    → (k : K) → lookup (same k) places' ≡ option_map place_of (pick' (λ placed. is_of k placed.entry.item))
found-more {K} same is_of log entry pick pick' key one names others places places' now looks is found k = grind (arith, nat_tests)

pub firsts-stay : {K : Type 0} (same : K → K → Bool) (is_of : K → Item → Bool) (keys_in : Item → List K) (log : List LogEntry) (entry : LogEntry) (places : List (K × ℕ))
    → ((key : K) → is_of key entry.item ≡ false) → keys_in entry.item ≡ [] → AreFirstsOf same is_of keys_in log places → AreFirstsOf same is_of keys_in (longer log entry) places
firsts-stay {K} same is_of keys_in log entry places none empty firsts = grind (arith, nat_tests, find-none, once-all same (λ (one : LogEntry). keys_in one.item) log entry [] empty)

pub recalls-stay : (log : List LogEntry) (entry : LogEntry) (places : List (BatchKey × ℕ)) → ((batch : BatchKey) → is_recall_of batch entry.item ≡ false)
    → AreFirstsOf is_same_batch is_recall_of recalled_in log places → AreFirstsOf is_same_batch is_recall_of recalled_in (longer log entry) places
recalls-stay log entry places none = firsts-stay is_same_batch is_recall_of recalled_in log entry places none (no-recall entry.item none)

pub withdrawals-stay : (log : List LogEntry) (entry : LogEntry) (places : List (List ℕ × ℕ)) → ((gtin : List ℕ) → is_withdrawal_of gtin entry.item ≡ false)
    → AreFirstsOf bytes_eq is_withdrawal_of withdrawn_in log places → AreFirstsOf bytes_eq is_withdrawal_of withdrawn_in (longer log entry) places
withdrawals-stay log entry places none = firsts-stay bytes_eq is_withdrawal_of withdrawn_in log entry places none (no-withdrawal entry.item none)

pub stops-stay : (log : List LogEntry) (entry : LogEntry) (tables : Stops) → StopsNone entry.item → AreStopsOf log tables → AreStopsOf (longer log entry) tables
stops-stay log entry tables none stops = grind (arith, nat_tests, recalls-stay, withdrawals-stay)

-- the table has, for each code, the place of its last master by stamp order, and nothing where there is none
abbrev pub AreMastersOf : List LogEntry → List (List ℕ × ℕ) → Type 0
AreMastersOf log masters = (gtin : List ℕ) → lookup (bytes_eq gtin) masters ≡ option_map place_of (last_or None (filter (λ placed. is_master gtin placed.entry.item) (ordered log)))

-- ---- What stands before an entry that comes last

-- those that x does not pass
abbrev pub stays_before : Placed → Placed → Bool
stays_before x y = not (passes x y)

-- the first of a kind, where x does not pass it
abbrev pub counted : Placed → Option Placed → Option Placed
counted x None = None
counted x (Some y) = cond (passes x y) None (Some y)

-- the first of those that x does not pass is the first of all, where x does not pass it
first-stays : (x : Placed) (xs : List Placed) → Ascends xs → first_in (filter (stays_before x) xs) ≡ counted x (first_in xs)
first-stays x [] a = refl
first-stays x (y ∷ ys) a = grind (arith, nat_tests, first-stays x ys a.1)

-- two parts of a list may be taken in either order
filter-swap : (f g : Placed → Bool) (xs : List Placed) → filter f (filter g xs) ≡ filter g (filter f xs)
filter-swap f g [] = refl
filter-swap f g (x ∷ xs) = grind (arith, nat_tests, filter-swap f g xs)

-- so it is of each kind
pub find-counted : (f : Placed → Bool) (x : Placed) (xs : List Placed) → Ascends xs → find f (filter (stays_before x) xs) ≡ counted x (find f xs)
find-counted f x xs a = grind (arith, nat_tests, filter-ascends, filter-swap, find-first, first-stays)

-- one of a kind stands before x where the first of the kind does
pub any-find : (f : Placed → Bool) (xs : List Placed) → list_any f xs ≡ is_some (find f xs)
any-find f [] = refl
any-find f (x ∷ xs) = grind (arith, nat_tests, any-find f xs)

pub counted-before : (x : Placed) (o : Option Placed) → IfSome o (λ y. y.place < x.place) → is_some (counted x o) ≡ is_before o x
counted-before x o h = grind (arith, nat_tests)

pub find-below : (f : Placed → Bool) (n : ℕ) (xs : List Placed) → AreBelow n xs → IfSome (find f xs) (λ y. y.place < n)
find-below f n xs u = find-all (λ y. y.place < n) f xs u

pub any-before : (f : Placed → Bool) (x : Placed) (xs : List Placed) → Ascends xs → AreBelow x.place xs → list_any f (filter (stays_before x) xs) ≡ is_before (find f xs) x
any-before f x xs a u = any-find f (filter (stays_before x) xs) ∙ ap is_some (find-counted f x xs a) ∙ counted-before x (find f xs) (find-below f x.place xs u)

-- how a batch stands by the entries before one that comes last
pub standing-before : (log : List LogEntry) (entry : LogEntry) → batch_standing (entries_before log entry) ≡ standing_at (first_stops (ordered log)) (newest log entry)
standing-before log entry =
    let before : (f : Placed → Bool) → list_any f (entries_before log entry) ≡ is_before (find f (ordered log)) (newest log entry) =
    λ f. any-before f (newest log entry) (ordered log) (ordered-ascends log) (ordered-below log) in
    λ i batch. record { recalled = before (λ placed. is_recall_of batch placed.entry.item) i; withdrawn = before (λ placed. is_withdrawal_of batch.gtin placed.entry.item) i }

-- none of these is passed by x
abbrev PassesNone : Placed → List Placed → Type 0
PassesNone x ys = AllByRecursion (λ y. passes x y ≡ false) ys

stay-none : (x : Placed) (xs : List Placed) → PassesNone x (filter (stays_before x) xs)
stay-none x [] = tt
stay-none x (y ∷ ys) = grind (arith, nat_tests, stay-none x ys)

standing-same : (x y : Placed) (xs : List Placed) → Ascends xs → passes x y ≡ false → standing_at (first_stops (filter (stays_before x) xs)) y ≡ standing_at (first_stops xs) y
standing-same x y xs a e = let sees : (f : Placed → Bool) → is_before (find f (filter (stays_before x) xs)) y ≡ is_before (find f xs) y =
    λ f. grind (arith, nat_tests, find-counted f x xs a) in
    (λ i batch. record { recalled = sees (λ placed. is_recall_of batch placed.entry.item) i; withdrawn = sees (λ placed. is_withdrawal_of batch.gtin placed.entry.item) i })

fold-same : (stops stops' : FirstStops) (pack : PackKey) (birth x : Placed) (held : KnownPack) (own : List Placed)
    → ((y : Placed) → passes x y ≡ false → standing_at stops' y ≡ standing_at stops y) → PassesNone x own
    → fold (pack_step stops' pack birth) held own ≡ fold (pack_step stops pack birth) held own
fold-same stops stops' pack birth x held [] same n = refl
fold-same stops stops' pack birth x held (y ∷ ys) same n = grind (arith, nat_tests, fold-same stops stops' pack birth x (pack_step stops pack birth held y) ys same n.1)

grown-same : (stops stops' : FirstStops) (pack : PackKey) (x : Placed) (birth : Option Placed) (own : List Placed)
    → ((y : Placed) → passes x y ≡ false → standing_at stops' y ≡ standing_at stops y) → PassesNone x own
    → pack_grown stops' pack birth own ≡ pack_grown stops pack birth own
grown-same stops stops' pack x birth own same n = grind (arith, nat_tests, fold-same)

-- a pack by the entries before one that comes last
pub known-before : (log : List LogEntry) (entry : LogEntry) (pack : PackKey) → known_pack pack (entries_before log entry)
    ≡ pack_grown (first_stops (ordered log)) pack (counted (newest log entry) (first_upload pack (ordered log))) (filter (stays_before (newest log entry)) (statuses_of pack (ordered log)))
known-before log entry pack = let x = newest log entry in
    let xs = ordered log in
    let a = ordered-ascends log in
    let own : statuses_of pack (entries_before log entry) ≡ filter (stays_before x) (statuses_of pack xs) = filter-swap (λ placed. is_status_of pack placed.entry.item) (stays_before x) xs in
    let birth : first_upload pack (entries_before log entry) ≡ counted x (first_upload pack xs) = find-counted (λ placed. is_upload_of pack placed.entry.item) x xs a in
    known-grown pack (entries_before log entry) (filter-ascends (stays_before x) xs a)
    ∙ (λ i. pack_grown (first_stops (entries_before log entry)) pack (birth i) (own i))
    ∙ grown-same (first_stops xs) (first_stops (entries_before log entry)) pack x (counted x (first_upload pack xs)) (filter (stays_before x) (statuses_of pack xs)) (λ y e. standing-same x y xs a e) (stay-none x (statuses_of pack xs))
