-- How far a run of plain bytes goes, seen sixteen bytes at a time.
use Rattle.mv_tokens.proofs.Words.{cases_lt, get_or, get_or_past, inl, inr, leb, length-drop, nat_eq, none_from_empty_mask, true, ◌-◌, ◌<◌, ◌≡◌, ℕ, List, [], ◌∷◌, Bool, cond, eqb, ltb, length, map, replicate, refl, sym, arith, is_stop, is_plain, prefix_len, ◌+◌, ◌≤◌, ◌%◌, ◌^◌, zero, suc, first_set_mask_l, mask_l-mod, length-map, bit_or, count_trailing_zeros, chunk, drop, drop-map, drop-take, drop-drop, prefix_len-le-length, length-chunk, take, ap, ◌∙◌, shr-shr, zero-div, false, ◌*◌, ◌/◌, mask_l, top, zip2, run_in_chunk_fails, PlainBetween, nat_tests}

-- the bits of the n lanes at which plain text stops, as the code finds them
abbrev pub stops : ℕ → List ℕ → List Bool
stops n lanes =
    map (top 7) (zip2 bit_or
    (zip2 bit_or (zip2 (λ a b. cond (eqb a b) 255 0) lanes (replicate n 34)) (zip2 (λ a b. cond (eqb a b) 255 0) lanes (replicate n 92)))
    (zip2 (λ a b. cond (ltb a b) 255 0) lanes (replicate n 32)))

stops_are : (n : ℕ) (lanes : List ℕ) → length lanes ≡ n → stops n lanes ≡ map is_stop lanes
stops_are zero [] long = refl
stops_are zero (x ∷ xs) long = absurd (omega arith)
stops_are (suc n) [] long = absurd (omega arith)
stops_are (suc n) (x ∷ xs) long = grind (arith, nat_tests, stops_are n xs)

halved : (b : Bool) (n : ℕ) → (cond b 1 0 + 2 * n) / 2 ≡ n
halved true n = omega arith
halved false n = omega arith

-- a shift of the mask passes over bits
mask_l-drop : (k : ℕ) (ms : List Bool) → mask_l ms / 2 ^ k ≡ mask_l (drop k ms)
mask_l-drop zero ms = omega arith
mask_l-drop (suc k) [] = zero-div (2 ^ suc k)
mask_l-drop (suc k) (m ∷ ms) =
    grind (arith, shr-shr (cond m 1 0 + 2 * mask_l ms) 1 k, halved m (mask_l ms), mask_l-drop k ms)

-- how many of sixteen lanes are plain before the first that is not, once k of them were passed
pub counted : (lanes : List ℕ) (k : ℕ) → length lanes ≡ 16 → k ≤ 16
    → prefix_len is_plain (drop k lanes)
    ≡ cond (eqb (mask_l (stops 16 lanes) % 2 ^ 64 / 2 ^ k) 0) (16 - k) (count_trailing_zeros 64 (mask_l (stops 16 lanes) % 2 ^ 64 / 2 ^ k))
counted lanes k long few =
    rw (stops_are 16 lanes long, mask_l-mod (map is_stop lanes) 64 (omega (arith, length-map lanes is_stop)), mask_l-drop k (map is_stop lanes), drop-map is_stop k lanes)
    (sym (first_set_mask_l is_stop (drop k lanes) (16 - k) (omega (arith, length-drop k lanes)) (omega arith)))

-- no more are plain than are left
pub few_left : (d : List ℕ) (last k : ℕ) → last + 16 ≤ length d → k ≤ 16 → k + prefix_len is_plain (drop k (chunk last 16 d)) ≤ 16
few_left d last k room few = omega (arith, prefix_len-le-length is_plain (drop k (chunk last 16 d)), length-drop k (chunk last 16 d), length-chunk last 16 d room)

-- as many bytes more as are plain in the sixteen from `last` on, once those before `at` were passed, or fewer
pub more_plain : (d : List ℕ) (from at last k n : ℕ) → last + 16 ≤ length d → k ≤ 16 → at ≡ last + k → n ≤ prefix_len is_plain (drop k (chunk last 16 d))
    → PlainBetween d from at → PlainBetween d from (at + n)
more_plain d from at last k n room few there within before i past end =
    let whole : k + (16 - k) ≡ 16 = omega (arith, few) in
    let rest : drop k (chunk last 16 d) ≡ chunk at (16 - k) d =
    ap (λ m. drop k (take m (drop last d))) (sym whole) ∙ drop-take k (16 - k) (drop last d)
    ∙ ap (take (16 - k)) (drop-drop k last d ∙ ap (λ j. drop j d) (sym there)) in
    grind (arith, before i, run_in_chunk_fails is_stop d at (16 - k) (prefix_len is_plain (chunk at (16 - k) d)) 0 (omega arith) refl i)

-- ---- ASCII

-- the bits of the n lanes that are no ASCII, as the code finds them
abbrev pub high : ℕ → List ℕ → List Bool
high n lanes = map (top 7) (zip2 (λ a b. cond (leb a b) 255 0) (replicate n 128) lanes)

high_are : (n : ℕ) (lanes : List ℕ) → length lanes ≡ n → high n lanes ≡ map (λ x. leb 128 x) lanes
high_are zero [] long = refl
high_are zero (x ∷ xs) long = absurd (omega arith)
high_are (suc n) [] long = absurd (omega arith)
high_are (suc n) (x ∷ xs) long = grind (arith, nat_tests, high_are n xs)

-- where no bit is set, sixteen bytes are ASCII
pub ascii_from : (d : List ℕ) (at : ℕ) → at + 16 ≤ length d → nat_eq (mask_l (high 16 (chunk at 16 d)) % 2 ^ 64) 0 ≡ true
    → (k : ℕ) → at ≤ k → k < at + 16 → get_or d k 0 < 128
ascii_from d at room empty k past within =
    let long : length (chunk at 16 d) ≡ 16 = grind (arith, length-drop) in
    let none : mask_l (map (λ x. leb 128 x) (chunk at 16 d)) ≡ 0 =
    grind (arith, nat_tests, high_are 16 (chunk at 16 d) long, mask_l-mod (map (λ x. leb 128 x) (chunk at 16 d)) 64 (omega (arith, length-map (chunk at 16 d) (λ x. leb 128 x)))) in
    grind (arith, nat_tests, none_from_empty_mask (λ x. leb 128 x) d at 16 0 room none k past within)

-- bytes whose front and whose last sixteen are ASCII
pub ascii_all : (d : List ℕ) (at : ℕ) → 16 ≤ length d → length d ≤ at + 16 → ((k : ℕ) → k < at → get_or d k 0 < 128)
    → ((k : ℕ) → length d - 16 ≤ k → k < length d - 16 + 16 → get_or d k 0 < 128) → (i : ℕ) → get_or d i 0 < 128
ascii_all d at many far front last i = elim (cases_lt i at) [
  | inl before ↦ front i before
  | inr behind ↦ elim (cases_lt i (length d)) [ inl within ↦ last i (omega arith) (omega arith) | inr past ↦ rw (get_or_past d i 0 past) (omega arith) ]
]
