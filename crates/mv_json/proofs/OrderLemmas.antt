-- Lists that are sorted, by computing.
use Rattle.mv_json.proofs.Words.{◌≡◌, true, ◌&&◌, Bool, List, [], ◌∷◌, arith, AllByRecursion, IsStrictlySortedBy, Less, Ordering, is_lt, list_all}

-- each of these is above x
all_above : {X : Type 0} (cmp : X → X → Ordering) (x : X) (ys : List X) → list_all (λ y. is_lt (cmp x y)) ys ≡ true → AllByRecursion (λ y. cmp x y ≡ Less) ys
all_above cmp x [] h = tt
all_above cmp x (y ∷ ys) h = grind (arith, all_above cmp x ys)

-- whether each is below all behind it
unfoldable pub rises : {X : Type 0} → (X → X → Ordering) → List X → Bool
rises cmp [] = true
rises cmp (x ∷ xs) = list_all (λ y. is_lt (cmp x y)) xs && rises cmp xs

-- what rises is sorted
pub strictly_sorted : {X : Type 0} (cmp : X → X → Ordering) (xs : List X) → rises cmp xs ≡ true → IsStrictlySortedBy cmp xs
unfolding rises IsStrictlySortedBy
strictly_sorted cmp [] h = tt
strictly_sorted cmp (x ∷ xs) h = grind (arith, all_above, strictly_sorted cmp xs)
