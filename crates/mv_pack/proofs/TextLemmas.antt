-- Texts whose bytes pass a test, and readings that choose by a test.
use Rattle.mv_pack.proofs.Words.{Bool, IsUtf8, List, Ok, arith, common_steps, get_or, length, list_all, list_all_at, true, ℕ, ◌<◌, ◌≡◌, IsGtin, at_drop_more, check_sum, get_or-map, is_digit, length-map, length-replicate, list_all-append, nat_tests, padded, read_gtin, same_number_lists, sum_by-cons}
use Rattle.std.proofs.lemmas.Str.{IsUtf8-from_ascii}
use Rattle.std.proofs.Common.{◌≡◌, ℕ, zero, suc, ◌+◌, ◌-◌, ◌*◌, ◌<◌, ◌≤◌, List, [], ◌∷◌, true, length, get_or, map, drop, ◌∙◌, replicate, length-append, refl, arith, IsUtf8, Ok}

-- each element of a list that passes throughout passes
pub passes_at : {X : Type 0} (p : X → Bool) (xs : List X) (i : ℕ) (d : X) → list_all p xs ≡ true → i < length xs → p (get_or xs i d) ≡ true
passes_at p xs i d all h = grind (arith, list_all_at)

-- bytes that pass a test of ASCII characters are ASCII
ascii_at : (p : ℕ → Bool) → ((byte : ℕ) → p byte ≡ true → byte < 128) → (xs : List ℕ) → list_all p xs ≡ true → (i : ℕ) → get_or xs i 0 < 128
ascii_at p bound xs all i = grind (arith, common_steps)

-- bytes that pass a test of ASCII characters are text
pub text_of_ascii : (p : ℕ → Bool) → ((byte : ℕ) → p byte ≡ true → byte < 128) → (xs : List ℕ) → list_all p xs ≡ true → IsUtf8 xs
text_of_ascii p bound xs all = IsUtf8-from_ascii xs (ascii_at p bound xs all)

-- ---- Texts of digits

pub digit_bounds : (c : ℕ) → is_digit c ≡ true → (48 ≤ c) × (c ≤ 57)
digit_bounds c h = grind (arith, nat_tests)

pub weight_times_digit : (w x : ℕ) → w ≤ 3 → x ≤ 57 → w * (x - 48) ≤ 27
weight_times_digit w x hw hx = grind arith

-- the digits of a text, each times its weight; the weights go on as w, 4 - w, w, 4 - w
abbrev pub weighted_sum : ℕ → List ℕ → ℕ
weighted_sum w [] = 0
weighted_sum w (c ∷ cs) = w * (c - 48) + weighted_sum (4 - w) cs

-- the weights 3, 1, 3, 1 .. weigh the odd places three times and the even places once
pub weighted_sum_is_check_sum : (t : List ℕ) → weighted_sum 3 t ≡ check_sum t
weighted_sum_is_check_sum [] = refl
weighted_sum_is_check_sum (x ∷ []) = simp sum_by-cons (omega arith)
weighted_sum_is_check_sum (x ∷ y ∷ t) = grind (arith, common_steps, weighted_sum_is_check_sum t)

pub weighted_sum-drop : (w : ℕ) (xs : List ℕ) (i : ℕ) → i < length xs → weighted_sum w (drop i xs) ≡ w * (get_or xs i 0 - 48) + weighted_sum (4 - w) (drop (i + 1) xs)
weighted_sum-drop w xs i h = at_drop_more (weighted_sum w) xs i 0 h

pub zeros_are_digits : (n : ℕ) → list_all is_digit (replicate n 48) ≡ true
zeros_are_digits zero = refl
zeros_are_digits (suc n) = zeros_are_digits n

-- the padded text is digits exactly where the text is
pub padded_digits : (t : List ℕ) → list_all is_digit (padded t) ≡ list_all is_digit t
padded_digits t = list_all-append is_digit (replicate (14 - length t) 48) t ∙ rw (zeros_are_digits (14 - length t)) refl

pub length_padded : (t : List ℕ) → length t ≤ 14 → length (padded t) ≡ 14
length_padded t h = grind (arith, length-append (replicate (14 - length t) 48) t, length-replicate {A = ℕ} (14 - length t) 48)

-- digits are text
pub digits_are_text : (xs : List ℕ) → list_all is_digit xs ≡ true → IsUtf8 xs
digits_are_text xs all = text_of_ascii is_digit (λ c h. grind (arith, nat_tests)) xs all

-- lists of the values at each place are alike
pub all_values : (xs ys : List ℕ) → length ys ≡ length xs → ((k : ℕ) → k < length ys → get_or ys k 0 ≡ get_or xs k 0 - 48) → ys ≡ map (λ x. x - 48) xs
all_values xs ys h below = grind (arith, length-map, same_number_lists, get_or-map)

-- what is read is 14 digits that are a product code
pub read_gtin_is_gtin : (t g : List ℕ) → read_gtin t ≡ Ok g → IsGtin g
read_gtin_is_gtin t g h = grind (arith, nat_tests)

-- 14 digits that are a product code are read as they stand
pub read_gtin_of : (t : List ℕ) → IsGtin t → read_gtin t ≡ Ok t
read_gtin_of t h = cc
