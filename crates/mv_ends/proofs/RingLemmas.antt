-- What ends of rings show as they are called one by one.
use Rattle.mv_ends.proofs.Words.{◌≡◌, ◌<◌, ◌++◌, ◌∷◌, ◌∙◌, ℕ, List, [], length, map, set, get_or, sym, ap, subst, arith, nat_tests, get_or-map, length-map, length-set, map-set, get_or-set_same, get_or-set_other, Global, Vec, sent, cell, Frame, Outlet, each_row, with_item, with_frame, map-set_same}

-- there is one where something is shown
pub has_place : {A B : Type 0} (f : A → B) (xs : List A) (shown : List B) (place : ℕ) → map f xs ≡ shown → place < length shown → place < length xs
has_place f xs shown place is below = subst (λ n. place < n) (ap length (sym is) ∙ length-map xs f) below

module _ {A B : Type 0} (xs : List A) (place : ℕ) (old new : A) (below : place < length xs) (here : old ≡ get_or xs place old) (f : A → B) (shown : List B) (is : map f xs ≡ shown) where
  -- what one of them shows
  pub shown_at : (absent : B) → get_or shown place absent ≡ f old
  shown_at absent = ap (λ l. get_or l place absent) (sym is) ∙ get_or-map f xs place old absent below ∙ ap f (sym here)

  -- it shows what it showed
  pub shows_same : f new ≡ f old → map f (set xs place new) ≡ shown
  shows_same same = map-set_same f xs place new old (same ∙ ap f here) ∙ is

-- what it shows once it was called
pub shown_after : {A B : Type 0} (xs : List A) (place : ℕ) (new : A) → place < length xs → (f : A → B) (absent : B) → get_or (map f (set xs place new)) place absent ≡ f new
shown_after xs place new below f absent = grind (arith, nat_tests, below, get_or-map, get_or-set_same xs place new new below, length-set xs place new)

-- the others show what they showed
pub shown_other : {A B : Type 0} (xs : List A) (place other : ℕ) (new : A) → (other ≡ place → ⊥) → (f : A → B) (shown : List B) (absent : B)
    → map f xs ≡ shown → get_or (map f (set xs place new)) other absent ≡ get_or shown other absent
shown_other xs place other new apart f shown absent is = grind (arith, nat_tests, is, map-set, get_or-set_other)

-- it shows one more item
pub shows_more : {A B : Type 0} (xs : List A) (place : ℕ) (old new : A) → place < length xs → old ≡ get_or xs place old
    → (f : A → List B) (shown : List (List B)) → map f xs ≡ shown → (item : B) → f new ≡ f old ++ item ∷ [] → map f (set xs place new) ≡ with_item shown place item
shows_more xs place old new below here f shown is item more = grind (arith, nat_tests, map-set, shown_at)

-- the same of one end in one of the rows of all links, with the row in which it was put back
module _ (rows : List (Vec (Outlet Frame) Global)) (put : List (List (List Frame))) (view : each_row sent rows ≡ put) (to from : ℕ)
    (in_range : to < length put) (wide : from < length (get_or put to [])) (row : Vec (Outlet Frame) Global) (old : Outlet Frame)
    (here : row ≡ get_or rows to row) (there : old ≡ get_or row.items from old) where
  row_shown : {A : Type 0} (f : Outlet Frame → A) (shown : List (List A)) → each_row f rows ≡ shown → get_or shown to [] ≡ map f row.items
  row_shown f shown is = grind (arith, nat_tests, get_or-map, has_place)

  below : from < length row.items
  below = has_place sent row.items (get_or put to []) from (sym (row_shown sent put view)) wide

  pub cell_shown : {A : Type 0} (f : Outlet Frame → A) (shown : List (List A)) → each_row f rows ≡ shown → (absent : A) → cell shown to from absent ≡ f old
  cell_shown f shown is absent = grind (arith, nat_tests, below, row_shown, get_or-map)

  module _ (next : Vec (Outlet Frame) Global) (new : Outlet Frame) (put_back : next.items ≡ set row.items from new) where
    pub cell_after : {A : Type 0} (f : Outlet Frame → A) (absent : A) → cell (each_row f (set rows to next)) to from absent ≡ f new
    cell_after f absent = grind (arith, nat_tests, has_place, below, shown_after)

    pub cell_same : {A : Type 0} (f : Outlet Frame → A) (shown : List (List A)) → each_row f rows ≡ shown → f new ≡ f old → each_row f (set rows to next) ≡ shown
    cell_same f shown is same = grind (arith, nat_tests, has_place, below, shows_same)

    pub cell_more : (frame : Frame) → sent new ≡ sent old ++ frame ∷ [] → each_row sent (set rows to next) ≡ with_frame put from to frame
    cell_more frame more = grind (arith, nat_tests, below, map-set, row_shown, shows_more)
