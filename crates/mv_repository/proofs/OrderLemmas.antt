-- Lemmas on the order of stamps.
use Rattle.mv_repository.proofs.Words.{gets, All-filter, All-from_recursion, All-weaker, recursion_from_All, ◌≡◌, ◌+◌, ◌<◌, ◌∷◌, ◌++◌, slice_get, Some, get_or, ℕ, List, [], length, refl, sym, ◌∙◌, ap, append-nil, append_assoc, fold-append, length-append, get_or_push, subst, arith, Bool, true, cond_both, IfSome, Option, filter, find, nat_tests, get_or_append_left, slice_get_within, get_or_from_slice_get, AllByRecursion, last_or, LogEntry, Placed, passes, put_in, ordered, stands_before, Ascends, IsOrderOf, no_entry, IsPermutation-cons, IsPermutation-refl, IsPermutation-middle, IsPermutation-trans, IsPermutation}

-- what holds of each holds of each that passes a test, of the first and of the last of them, and of what is put in too
pub map-all : {A : Type 0} (P Q : A → Type 0) → ((x : A) → P x → Q x) → (xs : List A) → AllByRecursion P xs → AllByRecursion Q xs
map-all P Q f xs h = recursion_from_All Q xs (All-weaker P Q f xs (All-from_recursion P xs h))

pub filter-all : {A : Type 0} (P : A → Type 0) (f : A → Bool) (xs : List A) → AllByRecursion P xs → AllByRecursion P (filter f xs)
filter-all P f xs h = recursion_from_All P (filter f xs) (All-filter f P xs (All-from_recursion P xs h))

pub find-all : {A : Type 0} (P : A → Type 0) (f : A → Bool) (xs : List A) → AllByRecursion P xs → IfSome (find f xs) P
find-all P f [] h = tt
find-all P f (x ∷ xs) h = cond_both (f x) (Some x) (find f xs) (λ o. IfSome o P) (λ e. h.0) (λ e. find-all P f xs h.1)

-- the first of a kind is of the kind
pub find-true : {A : Type 0} (f : A → Bool) (xs : List A) → IfSome (find f xs) (λ x. f x ≡ true)
find-true f [] = tt
find-true f (x ∷ xs) = cond_both (f x) (Some x) (find f xs) (λ o. IfSome o (λ x. f x ≡ true)) (λ e. e) (λ e. find-true f xs)

pub last-all : {A : Type 0} (P : A → Type 0) (last : Option A) (xs : List A) → IfSome last P → AllByRecursion P xs → IfSome (last_or last xs) P
last-all P last [] s h = s
last-all P last (x ∷ xs) s h = last-all P (Some x) xs h.0 h.1

put-all : (P : Placed → Type 0) (x : Placed) (xs : List Placed) → P x → AllByRecursion P xs → AllByRecursion P (put_in x xs)
put-all P x [] e h = (e, tt)
put-all P x (y ∷ ys) e h = grind (arith, nat_tests, put-all P x ys e h.1)

-- an entry stands before each of these
abbrev pub StandsBeforeAll : Placed → List Placed → Type 0
StandsBeforeAll entry entries = AllByRecursion (λ other. stands_before entry other ≡ true) entries

-- each entry is the one at its place in the log
abbrev pub AreOf : List LogEntry → List Placed → Type 0
AreOf log entries = AllByRecursion (λ one. slice_get log one.place ≡ Some one.entry) entries

-- an entry at a place of the log
abbrev pub placed_at : ℕ → LogEntry → Placed
placed_at place entry = record { place = place; entry = entry }

-- what passes an entry passes all that stand behind it, and stands before them
pub passes_behind : (x y z : Placed) → passes x y ≡ true → stands_before y z ≡ true → passes x z ≡ true
passes_behind x y z e f = grind (arith, nat_tests)

-- one that is put in is there, and those that were there stay
pub put_in-permutes : (x : Placed) (xs : List Placed) → IsPermutation (x ∷ xs) (put_in x xs)
put_in-permutes x [] = grind (arith, nat_tests)
put_in-permutes x (y ∷ ys) = grind (arith, nat_tests, IsPermutation-refl (x ∷ y ∷ ys), IsPermutation-trans _ _ _ (IsPermutation-middle (x ∷ []) y ys) (IsPermutation-cons y _ _ (put_in-permutes x ys)))

length-put_in : (x : Placed) (xs : List Placed) → length (put_in x xs) ≡ length xs + 1
length-put_in x [] = refl
length-put_in x (y ∷ ys) = grind (arith, nat_tests, length-put_in x ys)

-- all places are below n
abbrev pub AreBelow : ℕ → List Placed → Type 0
AreBelow n entries = AllByRecursion (λ one. one.place < n) entries

below : (log : List LogEntry) (xs : List Placed) → AreOf log xs → AreBelow (length log) xs
below log xs h = map-all (λ one. slice_get log one.place ≡ Some one.entry) (λ one. one.place < length log) (λ one e. slice_get_within log one.place one.entry e) xs h

before_passed : (x y : Placed) (ys : List Placed) → passes x y ≡ true → StandsBeforeAll y ys → StandsBeforeAll x ys
before_passed x y ys e h = map-all (λ z. stands_before y z ≡ true) (λ z. stands_before x z ≡ true) (λ z f. grind (arith, nat_tests)) ys h

ascends-put_in : (x : Placed) (xs : List Placed) → Ascends xs → AreBelow x.place xs → Ascends (put_in x xs)
ascends-put_in x [] a u = (tt, tt)
ascends-put_in x (y ∷ ys) a u = grind (arith, nat_tests, ascends-put_in x ys a.1 u.1, before_passed, put-all)

-- what holds of no entry, and stays as one more comes, holds of each log
pub by_entries : (P : List LogEntry → Type 0) → P [] → ((log : List LogEntry) (entry : LogEntry) → P log → P (log ++ entry ∷ [])) → (log : List LogEntry) → P log
by_entries P none more log = behind [] log none
  where
    behind : (front rest : List LogEntry) → P front → P (front ++ rest)
    behind front [] p = subst P (sym (append-nil front)) p
    behind front (entry ∷ rest) p = subst P (append_assoc front (entry ∷ []) rest) (behind (front ++ entry ∷ []) rest (more front entry p))

-- the order has each entry of the log once, by stamp and then by place
pub order_of : (log : List LogEntry) → IsOrderOf log (ordered log)
order_of = by_entries (λ log. IsOrderOf log (ordered log)) (record { entries = tt; ascends = tt; count = refl }) more
  where
    more : (log : List LogEntry) (entry : LogEntry) → IsOrderOf log (ordered log) → IsOrderOf (log ++ entry ∷ []) (ordered (log ++ entry ∷ []))
    more log entry order = let x = placed_at (length log) entry in
        let stay : AreOf (log ++ entry ∷ []) (ordered log) = map-all _ (λ one. slice_get (log ++ entry ∷ []) one.place ≡ Some one.entry) (λ one e. grind (arith, gets, get_or_append_left, length-append)) (ordered log) order.entries in
        subst (IsOrderOf (log ++ entry ∷ [])) (sym (fold-append _ [] log (entry ∷ []) ∙ ap (λ place. put_in (placed_at place entry) (ordered log)) order.count)) (record {
          entries = put-all _ x (ordered log) (grind (arith, gets, get_or_push, length-append)) stay;
          ascends = ascends-put_in x (ordered log) order.ascends (below log (ordered log) order.entries);
          count = grind (arith, length-put_in, length-append, order.count);
        })

pub ordered-ascends : (log : List LogEntry) → Ascends (ordered log)
ordered-ascends log = (order_of log).ascends

pub ordered-of : (log : List LogEntry) → AreOf log (ordered log)
ordered-of log = (order_of log).entries

-- the order with one more entry
pub ordered-push : (log : List LogEntry) (entry : LogEntry) → ordered (log ++ entry ∷ []) ≡ put_in (placed_at (length log) entry) (ordered log)
ordered-push log entry = fold-append _ [] log (entry ∷ []) ∙ ap (λ place. put_in (placed_at place entry) (ordered log)) (order_of log).count

-- each entry is the one at its place in the log, also where the log is longer
abbrev pub Stand : List LogEntry → List Placed → Type 0
Stand log entries = AllByRecursion (λ one. get_or log one.place no_entry ≡ one.entry) entries

pub ordered-below : (log : List LogEntry) → AreBelow (length log) (ordered log)
ordered-below log = below log (ordered log) (ordered-of log)

pub ordered-stand : (log : List LogEntry) → Stand log (ordered log)
ordered-stand log = grind (arith, nat_tests, get_or_from_slice_get, map-all, ordered-of)

pub still-stand : (log : List LogEntry) (entry : LogEntry) → Stand (log ++ entry ∷ []) (ordered log)
still-stand log entry = grind (arith, nat_tests, get_or_append_left, get_or_from_slice_get, map-all, ordered-of, slice_get_within)
