-- What decides a pack in a log: two logs agree on the pack that have the same of it, or the same about it, or distinct stamps and the same
-- messages. And the places that the tables keep of a pack are those of its history.
use Rattle.mv_repository.proofs.Words.{◌≡◌, ◌∷◌, Message, rules, ℕ, Bool, false, find, list_any, List, [], refl, sym, ◌∙◌, ap, cond, Option, Some, None, is_some, fold, map, option_map, option_and_then, PackKey, BatchKey, batch_key, Item, Receipt, Carried, LogEntry, BatchStanding, Placed, ordered, KnownPack, known_pack, is_recall_of, is_withdrawal_of, Sent, sent_in, unplaced, is_batch_recalled, AgreeOn, made_batch, pack_made_by, FirstStops, first_stops, standing_at, first_upload, statuses_of, pack_changed, pack_step, pack_grown, SentHistory, sent_of, history_of, PackHistory, sent_status, HaveSameHistory, arith, nat_tests, batch_in, ◌++◌, ◌<◌, suc, zero, nat_eq, get_or, length, subst, cond_both, All-contains, All-from_recursion, AllByRecursion, IsDistinct, HasDistinctStamps, HaveSameAbout, HaveSameEntries, Contains, cons_option, passes, put_in, Ascends, IsPermutation, IsPermutation-cons, IsPermutation-middle, IsPermutation-trans, true, true≢false, filter, append-nil, filter-append, list_any-append, IfSome, option_map_or, option_or, filter_map, bears_on, about, known_pack_from, pack_after_item, batch_standing, held_of, is_recalled_by, is_withdrawn_by, is_status_of, is_upload_of, map-append, All-contains_itself, filter_map-append, recursion_from_All, All-permutation, IsPermutation-refl, IsPermutation-sym, IsPermutation-to_front, IsDistinct-IsPermutation, AllPairs, bytes_eq, lookup, is_same_batch, AreAt, Held, pack_state, Stops, AreStopsOf, entry_at, kept_of, life_of, slice_get}
use Rattle.mv_repository.proofs.OrderLemmas.{ordered-ascends, by_entries, ordered-push, placed_at, StandsBeforeAll, ordered-of, ordered-stand, filter-all, find-all, order_of}
use Rattle.mv_repository.proofs.StateLemmas.{known-grown, find-stands, map-stands}
use Rattle.mv_repository.proofs.TableLemmas.{filter-stand}
use Rattle.std.proofs.lemmas.List.Kept.{AllPairs-cons, AllPairs-filter}

-- no status changes the batch
changed-batch : (standing : BatchKey → BatchStanding) (place sender : ℕ) (item : Item) (pack : PackKey) (held : KnownPack) → (pack_changed standing place sender item pack held).batch ≡ held.batch
changed-batch standing place sender item pack held = grind (arith, nat_tests)

fold-batch : (stops : FirstStops) (pack : PackKey) (birth : Placed) (held : KnownPack) (xs : List Placed) → (fold (pack_step stops pack birth) held xs).batch ≡ held.batch
fold-batch stops pack birth held [] = refl
fold-batch stops pack birth held (x ∷ xs) = grind (arith, nat_tests, changed-batch, fold-batch stops pack birth (pack_step stops pack birth held x) xs)

-- the batch of a pack is that of its upload
batch-upload : (pack : PackKey) (log : List LogEntry) → batch_in pack log ≡ option_and_then made_batch (first_upload pack (ordered log))
batch-upload pack log = grind (arith, nat_tests, fold-batch, known-grown, ordered-ascends)

-- a status does to a pack what was sent does, at whatever place
abbrev changed_of : PackKey → (BatchKey → BatchStanding) → KnownPack → Option Sent → KnownPack
changed_of pack standing held None = held
changed_of pack standing held (Some sent) = pack_changed standing 0 sent.sender (Carried 0 sent.stamp sent.message) pack held

changed-sent : (standing standing' : BatchKey → BatchStanding) (place sender : ℕ) (item : Item) (pack : PackKey) (held : KnownPack) → standing (batch_key pack.gtin held.batch) ≡ standing' (batch_key pack.gtin held.batch)
    → unplaced (pack_changed standing place sender item pack held) ≡ changed_of pack standing' (unplaced held) (sent_in sender item)
changed-sent standing standing' place sender item pack held e = grind (arith, nat_tests)

module _ (pack : PackKey) (stops stops' : FirstStops) where
  -- what decides the pack, by its upload and its batch
  abbrev decided : FirstStops → Option Placed → Option (List ℕ) → PackHistory
  decided firsts upload batch = record {
    upload = upload;
    statuses = [];
    recall = option_and_then (λ (number : List ℕ). firsts.recall (batch_key pack.gtin number)) batch;
    withdrawal = firsts.withdrawal pack.gtin;
  }

  -- two statuses that were sent alike, and stand alike behind what decides the pack, do the same to it
  same-step : (birth birth' : Placed) (held held' : KnownPack) (x y : Placed) → unplaced held ≡ unplaced held' → sent_status (decided stops (Some birth) (Some held.batch)) x ≡ sent_status (decided stops' (Some birth') (Some held'.batch)) y
      → unplaced (pack_step stops pack birth held x) ≡ unplaced (pack_step stops' pack birth' held' y)
  same-step birth birth' held held' x y e f =
      let turned = changed-sent (standing_at stops x) (standing_at stops' y) x.place x.entry.sender x.entry.item pack held in
      let turned' = changed-sent (standing_at stops' y) (standing_at stops' y) y.place y.entry.sender y.entry.item pack held' refl in
      grind (arith, nat_tests, turned, turned')

  same-fold : (birth birth' : Placed) (held held' : KnownPack) (xs ys : List Placed) → unplaced held ≡ unplaced held' → map (sent_status (decided stops (Some birth) (Some held.batch))) xs ≡ map (sent_status (decided stops' (Some birth') (Some held'.batch))) ys
      → unplaced (fold (pack_step stops pack birth) held xs) ≡ unplaced (fold (pack_step stops' pack birth') held' ys)
  same-fold birth birth' held held' [] [] e f = e
  same-fold birth birth' held held' [] (y ∷ ys) e f = absurd (cc)
  same-fold birth birth' held held' (x ∷ xs) [] e f = absurd (cc)
  same-fold birth birth' held held' (x ∷ xs) (y ∷ ys) e f =
      grind (arith, nat_tests, same-fold birth birth' (pack_step stops pack birth held x) (pack_step stops' pack birth' held' y) xs ys, changed-batch, same-step)

  same-grown : (upload upload' : Option Placed) (batch batch' : Option (List ℕ)) (own own' : List Placed) → batch ≡ option_and_then made_batch upload → batch' ≡ option_and_then made_batch upload' → option_and_then sent_of upload ≡ option_and_then sent_of upload'
      → map (sent_status (decided stops upload batch)) own ≡ map (sent_status (decided stops' upload' batch')) own'
      → option_map unplaced (pack_grown stops pack upload own) ≡ option_map unplaced (pack_grown stops' pack upload' own')
  same-grown upload upload' batch batch' own own' b c e f = grind (arith, nat_tests, same-fold)

-- the first of a kind was sent where there is one, and no receipt is of the kind
found-sent : (f : Item → Bool) → ((k : ℕ) (reach : List ℕ) (query : Bool) → f (Receipt k reach query) ≡ false) → (xs : List Placed)
    → list_any (λ x. f x.entry.item) xs ≡ is_some (option_and_then sent_of (find (λ x. f x.entry.item) xs))
found-sent f none [] = refl
found-sent f none (x ∷ xs) = grind (arith, nat_tests, found-sent f none xs)

recall-sent : (pack : PackKey) (batch : Option (List ℕ)) (log : List LogEntry) → is_batch_recalled pack.gtin batch log
    ≡ is_some (option_and_then sent_of (option_and_then (λ (number : List ℕ). (first_stops (ordered log)).recall (batch_key pack.gtin number)) batch))
recall-sent pack None log = refl
recall-sent pack (Some number) log = found-sent (is_recall_of (batch_key pack.gtin number)) (λ k reach query. refl) (ordered log)

pub same_history : (pack : PackKey) (one other : List LogEntry) → HaveSameHistory pack one other → AgreeOn pack one other
same_history pack one other same =
    let grown = same-grown pack (first_stops (ordered one)) (first_stops (ordered other)) (first_upload pack (ordered one)) (first_upload pack (ordered other))
    (batch_in pack one) (batch_in pack other) (statuses_of pack (ordered one)) (statuses_of pack (ordered other))
    (batch-upload pack one) (batch-upload pack other) (ap (λ (h : SentHistory). h.upload) same) (ap (λ (h : SentHistory). h.statuses) same) in
    let state : option_map unplaced (known_pack pack (ordered one)) ≡ option_map unplaced (known_pack pack (ordered other)) =
    ap (option_map unplaced) (known-grown pack (ordered one) (ordered-ascends one)) ∙ grown
    ∙ ap (option_map unplaced) (sym (known-grown pack (ordered other) (ordered-ascends other))) in
    let withdrawn = found-sent (is_withdrawal_of pack.gtin) (λ k reach query. refl) in
    grind (arith, nat_tests, recall-sent pack (batch_in pack one) one, recall-sent pack (batch_in pack other) other, state, withdrawn (ordered one), withdrawn (ordered other))

-- the laws that are said of one log
pub ruleset laws = (known-grown, order_of, ordered-ascends)

-- the messages that these entries carry, in the same order
abbrev sent_by : List Placed → List Sent
sent_by entries = filter_map sent_of entries

-- an item from a sender, at a place
abbrev item_at : ℕ → ℕ → Item → Placed
item_at place sender item = record { place = place; entry = record { sender = sender; item = item } }

abbrev batch_of : Option KnownPack → Option (List ℕ)
batch_of known = option_map (λ held. held.batch) (option_map held_of known)

module _ (pack : PackKey) where
  after-tests : (standing : BatchKey → BatchStanding) (place sender : ℕ) (item : Item) (known : Option KnownPack)
      → pack_after_item standing place sender item pack known ≡ cond (is_upload_of pack item) (option_or known (pack_made_by item))
      (cond (is_status_of pack item) (option_map (pack_changed standing place sender item pack) known) known)
  after-tests standing place sender item known = grind (arith, nat_tests)

  batch-stays : (before xs : List Placed) (known : Option KnownPack) (held : KnownPack) → known ≡ Some held
      → batch_of (known_pack_from before xs pack known) ≡ Some held.batch
  batch-stays before [] known held e = grind (arith, nat_tests)
  batch-stays before (x ∷ xs) known held e =
      let later = batch-stays (before ++ x ∷ []) xs (pack_after_item (batch_standing before) x.place x.entry.sender x.entry.item pack known) in
      grind (arith, nat_tests, after-tests, changed-batch, later)

  -- a message does to the pack what it does at whatever place; one that does not bear on the pack does nothing
  turned-told : (standing standing' : BatchKey → BatchStanding) (place sender k stamp : ℕ) (message : Message) (known : Option KnownPack)
      → ((held : KnownPack) → known ≡ Some held → standing (batch_key pack.gtin held.batch) ≡ standing' (batch_key pack.gtin held.batch))
      → option_map unplaced (pack_after_item standing place sender (Carried k stamp message) pack known) ≡ pack_after_item standing' 0 sender (Carried 0 stamp message) pack (option_map unplaced known)
  turned-told standing standing' place sender k stamp message known same = grind (arith, nat_tests, after-tests standing place sender (Carried k stamp message) known, after-tests standing' 0 sender (Carried 0 stamp message) (option_map unplaced known), changed-sent standing standing' place sender (Carried k stamp message) pack)

  away-told : (standing : BatchKey → BatchStanding) (place sender k stamp : ℕ) (message : Message) (known : Option KnownPack) (batch : Option (List ℕ)) → bears_on pack batch message ≡ false
      → pack_after_item standing place sender (Carried k stamp message) pack known ≡ known
  away-told standing place sender k stamp message known batch e = search rules

  module _ (kept : Sent → Bool) where
    -- those of their messages that are kept, each as an entry at no place
    abbrev told : List Placed → List Placed
    told xs = map (λ (sent : Sent). item_at 0 sent.sender (Carried 0 sent.stamp sent.message)) (filter kept (sent_by xs))

    -- all are kept that bear on the pack
    abbrev KeepsAll : Option (List ℕ) → Type 0
    KeepsAll batch = (sent : Sent) → kept sent ≡ false → bears_on pack batch sent.message ≡ false

    told-append : (xs ys : List Placed) → told (xs ++ ys) ≡ told xs ++ told ys
    told-append xs ys = simp (filter_map-append, filter-append, map-append)

    any-told : (test : Placed → Bool) → ((x : Placed) → list_any test (told (x ∷ [])) ≡ test x) → (xs : List Placed)
        → list_any test (told xs) ≡ list_any test xs
    any-told test one [] = refl
    any-told test one (x ∷ xs) = grind (arith, nat_tests, told-append (x ∷ []) xs, list_any-append, one x, any-told test one xs)

    -- the batch of this number stands by them as by all, where there is one, and the product
    stands-told : (batch : Option (List ℕ)) → KeepsAll batch → (xs : List Placed)
        → (option_map_or (λ (number : List ℕ). is_recalled_by (batch_key pack.gtin number) (told xs)) batch false
        ≡ option_map_or (λ (number : List ℕ). is_recalled_by (batch_key pack.gtin number) xs) batch false)
        × (is_withdrawn_by pack.gtin (told xs) ≡ is_withdrawn_by pack.gtin xs)
    stands-told None all xs = (refl, any-told (λ x. is_withdrawal_of pack.gtin x.entry.item) (λ x. grind (arith, nat_tests)) xs)
    stands-told (Some number) all xs =
        let recall = any-told (λ x. is_recall_of (batch_key pack.gtin number) x.entry.item) (λ x. grind (arith, nat_tests)) xs in
        (recall, any-told (λ x. is_withdrawal_of pack.gtin x.entry.item) (λ x. grind (arith, nat_tests)) xs)

    -- so does the pack once one more entry comes, but for the place in its change
    one-told : (before rest : List Placed) (place sender : ℕ) (item : Item) (known : Option KnownPack) (batch : Option (List ℕ)) → KeepsAll batch
        → ((held : KnownPack) → known ≡ Some held
        → batch_standing before (batch_key pack.gtin held.batch) ≡ batch_standing (told before) (batch_key pack.gtin held.batch))
        → known_pack_from (told (before ++ item_at place sender item ∷ [])) (told rest) pack
        (option_map unplaced (pack_after_item (batch_standing before) place sender item pack known))
        ≡ known_pack_from (told before) (told (item_at place sender item ∷ rest)) pack (option_map unplaced known)
    one-told before rest place sender (Receipt k reach query) known batch all same =
        grind (arith, nat_tests, append-nil, told-append before (item_at place sender (Receipt k reach query) ∷ []))
    one-told before rest place sender (Carried k stamp message) known batch all same =
        let sent : Sent = record { sender = sender; stamp = stamp; message = message } in
        let more = told-append before (item_at place sender (Carried k stamp message) ∷ []) in
        let turned = turned-told (batch_standing before) (batch_standing (told before)) place sender k stamp message known same in
        let away = away-told (batch_standing before) place sender k stamp message known batch in
        grind (arith, nat_tests, append-nil, all sent, more, turned, away)

    pack-told : (before xs : List Placed) (known : Option KnownPack) → KeepsAll (batch_of (known_pack_from before xs pack known))
        → option_map unplaced (known_pack_from before xs pack known) ≡ known_pack_from (told before) (told xs) pack (option_map unplaced known)
    pack-told before [] known all = refl
    pack-told before (x ∷ xs) known all = let batch = batch_of (known_pack_from before (x ∷ xs) pack known) in
        pack-told (before ++ x ∷ []) xs (pack_after_item (batch_standing before) x.place x.entry.sender x.entry.item pack known) all
        ∙ one-told before xs x.place x.entry.sender x.entry.item known batch all
        (λ held e. grind (arith, nat_tests, batch-stays before (x ∷ xs) known held e, stands-told batch all before))

-- two logs agree on a pack where they carry, in order, the same of what is kept, and all is kept that bears on the pack
agree-by : (pack : PackKey) (kept kept' : Sent → Bool) (one other : List LogEntry) → KeepsAll pack kept (batch_in pack one)
    → KeepsAll pack kept' (batch_in pack other) → filter kept (sent_by (ordered one)) ≡ filter kept' (sent_by (ordered other)) → AgreeOn pack one other
agree-by pack kept kept' one other all all' same = let told-same : told pack kept (ordered one) ≡ told pack kept' (ordered other) =
    ap (map (λ (sent : Sent). item_at 0 sent.sender (Carried 0 sent.stamp sent.message))) same in
    let state : option_map unplaced (known_pack pack (ordered one)) ≡ option_map unplaced (known_pack pack (ordered other)) =
    pack-told pack kept [] (ordered one) None all ∙ ap (known_pack pack) told-same ∙ sym (pack-told pack kept' [] (ordered other) None all') in
    let mine = stands-told pack kept (batch_in pack one) all (ordered one) in
    let theirs = stands-told pack kept' (batch_in pack other) all' (ordered other) in
    grind (arith, nat_tests, mine, state, theirs, told-same)

pub agree : (pack : PackKey) (one other : List LogEntry) → about pack one ≡ about pack other → AgreeOn pack one other
agree pack one other same =
    agree-by pack (λ sent. bears_on pack (batch_in pack one) sent.message) (λ sent. bears_on pack (batch_in pack other) sent.message) one other
    (λ sent e. e) (λ sent e. e) same

-- each stamp is greater than those before
abbrev Increases : List Sent → Type 0
Increases sent = AllPairs (λ one other. one.stamp < other.stamp) sent

above-member : (x z : Sent) (xs : List Sent) → Increases (x ∷ xs) → Contains xs z → x.stamp < z.stamp
above-member x z xs p c = subst (λ (s : Sent). x.stamp < s.stamp) c.2 (p 0 (suc c.0) z (omega arith) (omega (arith, c.1)))

-- of two lists with increasing stamps and the same members the first is the same, and what stands behind it
first-same : (x y : Sent) (xs ys : List Sent) → Increases (x ∷ xs) → Increases (y ∷ ys) → Contains (y ∷ ys) x → Contains (x ∷ xs) y → x ≡ y
first-same x y xs ys p q (zero, l, e) d = sym e
first-same x y xs ys p q (suc k, l, e) (zero, m, f) = f
first-same x y xs ys p q (suc k, l, e) (suc j, m, f) =
    absurd (omega (arith, above-member x y xs p (j, omega arith, f), above-member y x ys q (k, omega arith, e)))

rest-member : (x y z : Sent) (xs ys : List Sent) → x ≡ y → Increases (x ∷ xs) → Contains xs z → Contains (y ∷ ys) z → Contains ys z
rest-member x y z xs ys same p c (zero, l, e) = absurd (omega (arith, above-member x z xs p c, ap (λ (s : Sent). s.stamp) (same ∙ e)))
rest-member x y z xs ys same p c (suc k, l, e) = (k, omega arith, e)

same-order : (xs ys : List Sent) → Increases xs → Increases ys → ((x : Sent) → Contains xs x → Contains ys x) → ((x : Sent) → Contains ys x → Contains xs x) → xs ≡ ys
same-order [] [] p q f g = refl
same-order [] (y ∷ ys) p q f g = absurd (omega (arith, (g y (0, omega arith, refl)).1))
same-order (x ∷ xs) [] p q f g = absurd (omega (arith, (f x (0, omega arith, refl)).1))
same-order (x ∷ xs) (y ∷ ys) p q f g =
    let first : x ≡ y = first-same x y xs ys p q (f x (0, omega arith, refl)) (g y (0, omega arith, refl)) in
    let rest : xs ≡ ys = same-order xs ys
    (λ i j d l m. p (suc i) (suc j) d (omega arith) (omega arith)) (λ i j d l m. q (suc i) (suc j) d (omega arith) (omega arith))
    (λ z c. rest-member x y z xs ys first p c (f z (suc c.0, omega (arith, c.1), c.2)))
    (λ z c. rest-member y x z ys xs (sym first) q c (g z (suc c.0, omega (arith, c.1), c.2))) in
    λ i. first i ∷ rest i

-- what each entry of a log gives, by itself
module _ {X : Type 0} (h : LogEntry → Option X) where
  abbrev given : List Placed → List X
  given entries = filter_map (λ placed. h placed.entry) entries

  two-more : (S T : List X) (o p : Option X) → IsPermutation (cons_option o S) T → IsPermutation (cons_option o (cons_option p S)) (cons_option p T)
  two-more S T o None r = r
  two-more S T None (Some b) r = IsPermutation-cons b S T r
  two-more S T (Some a) (Some b) r = IsPermutation-trans _ _ _ (IsPermutation-middle (a ∷ []) b S) (IsPermutation-cons b (a ∷ S) T r)

  given-put_in : (x : Placed) (xs : List Placed) → IsPermutation (given (x ∷ xs)) (given (put_in x xs))
  given-put_in x [] = IsPermutation-refl _
  given-put_in x (y ∷ ys) =
      cond_both (passes x y) (x ∷ y ∷ ys) (y ∷ put_in x ys) (λ l. IsPermutation (given (x ∷ y ∷ ys)) (given l)) (λ e. IsPermutation-refl _)
      (λ e. two-more (given ys) (given (put_in x ys)) (h x.entry) (h y.entry) (given-put_in x ys))

  -- the order of stamps gives the same
  given-ordered : (log : List LogEntry) → IsPermutation (filter_map h log) (given (ordered log))
  given-ordered = by_entries (λ log. IsPermutation (filter_map h log) (given (ordered log))) (IsPermutation-refl _) more
    where
      front : (o : Option X) (S T : List X) → IsPermutation S T → IsPermutation (S ++ cons_option o []) (cons_option o T)
      front None S T r = subst (λ (l : List X). IsPermutation l T) (sym (append-nil S)) r
      front (Some s) S T r = IsPermutation-trans _ _ _ (IsPermutation-to_front S s) (IsPermutation-cons s S T r)

      more : (log : List LogEntry) (entry : LogEntry) → IsPermutation (filter_map h log) (given (ordered log))
          → IsPermutation (filter_map h (log ++ entry ∷ [])) (given (ordered (log ++ entry ∷ [])))
      more log entry r = let put = given-put_in (placed_at (length log) entry) (ordered log) in
          rw (filter_map-append, ordered-push) (IsPermutation-trans _ _ _ (front (h entry) (filter_map h log) (given (ordered log)) r) put)

  -- what holds of all that is given holds of what each entry gives
  given-each : (P : X → Type 0) (log : List LogEntry) → AllByRecursion P (filter_map h log) → AllByRecursion (λ (e : LogEntry). IfSome (h e) P) log
  given-each P [] all = tt
  given-each P (entry ∷ log) all = grind (arith, nat_tests, given-each P log)

  each-given : (P : X → Type 0) (log : List LogEntry) → AllByRecursion (λ (e : LogEntry). IfSome (h e) P) log → AllByRecursion P (filter_map h log)
  each-given P [] all = tt
  each-given P (entry ∷ log) all = grind (arith, nat_tests, each-given P log all.1)

  -- each entry of one log is in another: so is all that is given
  given-also : (one other : List LogEntry) → ((entry : LogEntry) → Contains one entry → Contains other entry)
      → (y : X) → Contains (given (ordered one)) y → Contains (given (ordered other)) y
  given-also one other also y c = let P : X → Type 0 = Contains (given (ordered other)) in
      let In : LogEntry → Type 0 = λ entry. IfSome (h entry) P in
      let theirs = All-permutation P _ (filter_map h other) (IsPermutation-sym _ _ (given-ordered other)) (All-contains_itself (given (ordered other))) in
      let there = All-from_recursion In other (given-each P other (recursion_from_All P (filter_map h other) theirs)) in
      let here = recursion_from_All In one (λ i d l. All-contains In other (get_or one i d) there (also _ (All-contains_itself one i d l))) in
      All-contains P _ y (All-permutation P (filter_map h one) _ (given-ordered one) (All-from_recursion P (filter_map h one) (each-given P one here))) c

abbrev stamp_of : LogEntry → Option ℕ
stamp_of entry = option_map (λ (sent : Sent). sent.stamp) (sent_in entry.sender entry.item)

-- in the order of stamps they increase, where stamps are distinct
above : (x : Placed) (sent : Sent) (ys : List Placed) → sent_of x ≡ Some sent → StandsBeforeAll x ys
    → AllByRecursion (λ stamp. nat_eq sent.stamp stamp ≡ false) (given stamp_of ys) → AllByRecursion (λ (one : Sent). sent.stamp < one.stamp) (sent_by ys)
above x sent [] is before apart = tt
above x sent (y ∷ ys) is before apart = grind (arith, nat_tests, above x sent ys is before.1)

increases-by : (xs : List Placed) → Ascends xs → IsDistinct nat_eq (given stamp_of xs) → Increases (sent_by xs)
unfolding IsDistinct
increases-by [] ascends apart = λ i j d l m. absurd (omega arith)
increases-by (x ∷ xs) ascends apart = by (sent_of x) refl (increases-by xs ascends.1) apart
  where
    by : (o : Option Sent) → sent_of x ≡ o → (IsDistinct nat_eq (given stamp_of xs) → Increases (sent_by xs))
        → IsDistinct nat_eq (cons_option (option_map (λ (sent : Sent). sent.stamp) o) (given stamp_of xs)) → Increases (cons_option o (sent_by xs))
    by None e rest apart = rest apart
    by (Some s) e rest apart =
        let behind = All-from_recursion (λ (one : Sent). s.stamp < one.stamp) (sent_by xs) (above x s xs e ascends.0 apart.0) in
        AllPairs-cons (λ (one other : Sent). one.stamp < other.stamp) s (sent_by xs) behind (rest apart.1)

ordered-increases : (log : List LogEntry) → HasDistinctStamps log → Increases (sent_by (ordered log))
ordered-increases log apart =
    let distinct = IsDistinct-IsPermutation nat_eq (λ x y. grind (arith, nat_tests)) _ _ (given-ordered stamp_of log) apart in
    increases-by (ordered log) (ordered-ascends log) distinct

pub same_about : (pack : PackKey) (one other : List LogEntry) → HasDistinctStamps one → HasDistinctStamps other → HaveSameAbout pack one other → AgreeOn pack one other
same_about pack one other distinct apart same =
    agree pack one other (same-order _ _ (about-increases one distinct) (about-increases other apart) (λ sent. (same sent).0) (λ sent. (same sent).1))
  where
    about-increases : (log : List LogEntry) → HasDistinctStamps log → Increases (about pack log)
    about-increases log distinct =
        AllPairs-filter (λ one other. one.stamp < other.stamp) (λ sent. bears_on pack (batch_in pack log) sent.message) _ (ordered-increases log distinct)

-- two logs with distinct stamps and the same entries agree on every pack
pub same_entries : (pack : PackKey) (one other : List LogEntry) → HasDistinctStamps one → HasDistinctStamps other → HaveSameEntries one other → AgreeOn pack one other
same_entries pack one other distinct apart same =
    let also = given-also (λ entry. sent_in entry.sender entry.item) one other (λ entry. (same entry).0) in
    let back = given-also (λ entry. sent_in entry.sender entry.item) other one (λ entry. (same entry).1) in
    let sent : sent_by (ordered one) ≡ sent_by (ordered other) = same-order _ _ (ordered-increases one distinct) (ordered-increases other apart) also back in
    agree-by pack (λ sent. true) (λ sent. true) one other (λ sent e. absurd (true≢false e)) (λ sent e. absurd (true≢false e)) (ap (filter (λ sent. true)) sent)

module _ (log : List LogEntry) (pack : PackKey) where
  -- the places by what is kept of the pack, by what it is, and by the tables
  pub lent-places : (tables : Stops) (upload : Option ℕ) (statuses : List ℕ) (by : ℕ) (held : Option Held) (recall withdrawal : Option ℕ)
      → AreStopsOf log tables → record { birth = upload; statuses = statuses; by = by; blocks = [] } ≡ kept_of (life_of pack log) → held ≡ pack_state pack log
      → recall ≡ option_and_then (λ (held : Held). lookup (is_same_batch (batch_key pack.gtin held.batch)) tables.recalls.entries) held
      → withdrawal ≡ lookup (bytes_eq pack.gtin) tables.withdrawals.entries
      → record { upload = option_map (entry_at log) upload; statuses = map (entry_at log) statuses; recall = option_map (entry_at log) recall; withdrawal = option_map (entry_at log) withdrawal }
      ≡ history_of pack log
  lent-places tables upload statuses by held recall withdrawal stops kept is first last = grind (arith, nat_tests, filter-stand, find-stands, map-stands, ordered-stand)

  -- each entry of a history is the one at its place
  pub history-at : AreAt log (history_of pack log)
  history-at = grind (arith, nat_tests, filter-all, find-all, ordered-of)

-- ---- Lemmas on the stamps of a log: they are distinct where none stands at two places

-- the stamp of an item that was carried, and of the one at a place of a log
abbrev pub stamp_in : Item → Option ℕ
stamp_in (Carried k stamp message) = Some stamp
stamp_in (Receipt k reach query) = None

abbrev pub stamp_at : List LogEntry → ℕ → Option ℕ
stamp_at log place = option_and_then (λ entry. stamp_in entry.item) (slice_get log place)

-- a stamp that stands at two places stands at one
abbrev pub HasNoStampTwice : List LogEntry → Type 0
HasNoStampTwice log = (first second stamp : ℕ) → stamp_at log first ≡ Some stamp → stamp_at log second ≡ Some stamp → first ≡ second

abbrev stamps_of : List LogEntry → List ℕ
stamps_of log = filter_map (λ entry. option_map (λ (sent : Sent). sent.stamp) (sent_in entry.sender entry.item)) log

apart : (a b : ℕ) → (b ≡ a → ⊥) → nat_eq a b ≡ false
apart a b other = grind (arith, nat_tests)

none : (stamp : ℕ) (log : List LogEntry) → ((place : ℕ) → stamp_at log place ≡ Some stamp → ⊥) → AllByRecursion (λ other. nat_eq stamp other ≡ false) (stamps_of log)
none stamp [] h = tt
none stamp (entry ∷ log) h = grind (arith, nat_tests, apart, none stamp log (λ place. h (suc place)), h 0)

-- where no stamp stands at two places, they are distinct
pub distinct-stamps : (log : List LogEntry) → HasNoStampTwice log → HasDistinctStamps log
unfolding IsDistinct
distinct-stamps [] h = tt
distinct-stamps (entry ∷ log) h =
    let later = distinct-stamps log (λ first second stamp a b. omega (arith, h (suc first) (suc second) stamp a b)) in
    let apart : (stamp : ℕ) → stamp_in entry.item ≡ Some stamp → AllByRecursion (λ other. nat_eq stamp other ≡ false) (stamps_of log) =
    λ stamp e. none stamp log (λ place at. omega (arith, h 0 (suc place) stamp e at)) in
    grind (arith, nat_tests)
