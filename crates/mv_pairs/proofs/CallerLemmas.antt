-- Reads of a table that was written: what the proofs of other crates cite of tables.
use Rattle.std.proofs.lemmas.Grind.{common_steps}
use Rattle.std.proofs.Common.{◌≡◌, ◌≢◌, ℕ, ◌<◌, List, [], ◌∷◌, length, map, get_or, set, sym, refl, ap, ap₂, ◌∙◌, subst, arith, ◌⊎◌, get_or-set_same, get_or-set_other, rules, replicate}
use Rattle.std.proofs.lemmas.List.{get_or_default, set_past, get_or-replicate, length-replicate, set-get_or, length-map, length-set, map-set, get_or-map as get_or-map-within}
use Rattle.std.proofs.Math.ListN.{get_or-map}
use Rattle.std.specs.List.{All}
use Rattle.std.proofs.lemmas.List.Elements.{All-tail}
use Rattle.std.specs.declared.alloc.Global.{Global}
use Rattle.std.specs.declared.vec.Vec.{Vec}
use Rattle.std.specs.Vec.{with_item}
use Rattle.mv_pairs.specs.Pairs.{cell, put, IsSquare}
use Rattle.mv_pairs.specs.inside.Pairs.{rows_of}

-- what holds at each place, and of the new value at its own, holds at each place after the write
pub put-each : {A : Type 0} (P : ℕ → A → Type 0) (xs : List A) (i : ℕ) (v d : A) → P i v → ((j : ℕ) → P j (get_or xs j d)) → (j : ℕ) → P j (get_or (set xs i v) j d)
put-each P xs i v d new old j = grind (arith, get_or-set_same, set_past, get_or-set_other)

-- the same for the pairs of a table
pub put-each_pair : {A : Type 0} (P : ℕ → ℕ → A → Type 0) (t : List (List A)) (s r : ℕ) (v d : A) → P s r v → ((i j : ℕ) → P i j (cell t i j d)) → (i j : ℕ) → P i j (cell (put t s r v) i j d)
put-each_pair P t s r v d new old i = grind (arith, common_steps)

pub cell-put_same : {A : Type 0} (n : ℕ) (t : List (List A)) (s r : ℕ) (v d : A) → IsSquare n t → s < n → r < n → cell (put t s r v) s r d ≡ v
cell-put_same n t s r v d h p q = grind (arith, get_or-set_same)

pub cell-put_other : {A : Type 0} (t : List (List A)) (s r i j : ℕ) (v d : A) → (i ≢ s) ⊎ (j ≢ r) → cell (put t s r v) i j d ≡ cell t i j d
cell-put_other t s r i j v d h = grind (arith, common_steps)

pub square-put : {A : Type 0} (n : ℕ) (t : List (List A)) (s r : ℕ) (v : A) → IsSquare n t → IsSquare n (put t s r v)
square-put n t s r v h = search rules

pub square-replicate : {A : Type 0} (n : ℕ) (v : A) → IsSquare n (replicate n (replicate n v))
square-replicate n v = search (length-replicate, get_or-replicate)

-- one value of a table, through a function of each
pub cell-map : {A B : Type 0} (f : A → B) (t : List (List A)) (s r : ℕ) (d : A) → cell (map (map f) t) s r (f d) ≡ f (cell t s r d)
cell-map f t s r d = ap (λ row. get_or row r (f d)) (get_or-map (map f) t s []) ∙ get_or-map f (get_or t s []) r d

pub put-map : {A B : Type 0} (f : A → B) (t : List (List A)) (s r : ℕ) (v : A) → map (map f) (put t s r v) ≡ put (map (map f) t) s r (f v)
put-map f t s r v = grind (arith, common_steps, map-set)

pub put-cell : {A : Type 0} (t : List (List A)) (s r : ℕ) (d : A) → put t s r (cell t s r d) ≡ t
put-cell t s r d = ap (set t s) (set-get_or (get_or t s []) r d) ∙ set-get_or t s []

-- a write that a function doesn't see
pub put-map_same : {A B : Type 0} (f : A → B) (t : List (List A)) (s r : ℕ) (v d : A) → f v ≡ f (cell t s r d) → map (map f) (put t s r v) ≡ map (map f) t
put-map_same f t s r v d e = cc (put-map f t s r v, cell-map f t s r d, put-cell (map (map f) t) s r (f d))

pub square-map : {A B : Type 0} (n : ℕ) (f : A → B) (t : List (List A)) → IsSquare n t → IsSquare n (map (map f) t)
square-map n f t h = record { rows = grind (arith, length-map); row = λ s p. ap length (get_or-map (map f) t s []) ∙ length-map (get_or t s []) f ∙ h.row s p }

-- where f gives x at each value, the table of what f gives is full of x
map-all : {A B : Type 0} (f : A → B) (x : B) (xs : List A) → All (λ v. f v ≡ x) xs → map f xs ≡ replicate (length xs) x
map-all f x [] a = refl
map-all f x (v ∷ xs) a = ap₂ (λ y l. y ∷ l) (a 0 v (omega arith)) (map-all f x xs (All-tail (λ v. f v ≡ x) v xs a))

pub table-all : {A B : Type 0} (f : A → B) (x : B) (n : ℕ) (t : List (List A)) → IsSquare n t → All (All (λ v. f v ≡ x)) t → map (map f) t ≡ replicate n (replicate n x)
table-all f x n t h a =
    map-all (map f) (replicate n x) t
    (λ k d lt. map-all f x (get_or t k d) (a k d lt) ∙ ap (λ m. replicate m x) (grind (arith, get_or_default t k d [] lt, h.rows, h.row k)))
    ∙ ap (λ m. replicate m (replicate n x)) h.rows

-- one row of a table, and a write in it
abbrev items_of : {A : Type 0} → Vec A Global → List A
items_of row = row.items

module _ {A : Type 0} (rows : List (Vec A Global)) (from to : ℕ) (row : Vec A Global) (is_from : from < length rows) (here : row ≡ get_or rows from row) where
  pub row_shown : get_or (rows_of rows) from [] ≡ row.items
  row_shown = get_or-map-within items_of rows from row [] is_from ∙ ap items_of (sym here)

  pub rows_put : (w : A) → rows_of (set rows from (with_item row to w)) ≡ put (rows_of rows) from to w
  rows_put w = grind (arith, map-set items_of rows from, row_shown)

  module _ (square : IsSquare (length rows) (rows_of rows)) where
    pub row_wide : to < length rows → to < length row.items
    row_wide is_to = subst (λ n. to < n) (sym (square.row from is_from) ∙ ap length row_shown) is_to

    pub square_kept : (w : A) → IsSquare (length (set rows from (with_item row to w))) (rows_of (set rows from (with_item row to w)))
    square_kept w = grind (arith, rows_put w, length-set, square-put (length rows) (rows_of rows) from to w square)
