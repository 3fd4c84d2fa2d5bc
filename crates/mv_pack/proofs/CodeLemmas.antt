-- What is read as a serial, batch or national number.
use Rattle.mv_pack.proofs.Words.{common_steps, Bool, Err, IsCode, IsFilledUp, IsUtf8, List, None, Ok, [], ap, ap₂, append_assoc, arith, cond, count_by, count_by-le-length, drop, drop-drop, drop-replicate, filled_up, first_wrong, is_code_character, is_filled, length, length-drop, length-take-le, list_all, most_code_bytes, nat_tests, not, get_or, ◌<◌, zero, suc, position_from, read_code, refl, replicate, subst, sum_by-cons, sum_by-replicate, sum_by-take-drop, sym, take, take-append-drop, take-append-le, take-take, take_all, take_rest, text_before, true, ℕ, ◌++◌, ◌+◌, ◌-◌, ◌==◌, ◌∙◌, ◌∷◌, ◌≡◌, ◌≤◌, ◌↔◌}
use Rattle.std.proofs.Math.Seq.{drop-append-add, take-append_seam}
use Rattle.std.proofs.lemmas.Bool.{eqb-true}
use borrow.Rule.Slice.PartMut.{put_mid}
use Rattle.mv_pack.proofs.TextLemmas.{text_of_ascii}
use Rattle.std.proofs.lemmas.Str.{IsUtf8-from_ascii}
use Rattle.mv_pack.specs.declared.fault.PackFault.{PackFault}

-- no wrong element is found exactly where all are right
right_throughout : {X : Type 0} (p : X → Bool) (xs : List X) (i : ℕ)
    → (position_from (λ x. not (p x)) i xs ≡ None) ↔ (list_all p xs ≡ true)
right_throughout p [] i = (λ _. refl, λ _. refl)
right_throughout p (x ∷ xs) i = grind (arith, right_throughout p xs (i + 1))

-- a text in which no wrong byte is found has characters of codes alone
pub no_wrong_byte : (t : List ℕ) → first_wrong t ≡ None → list_all is_code_character t ≡ true
no_wrong_byte t h = (right_throughout is_code_character t 0).0 h

-- a code is read as it stands
pub read_code_of : (t : List ℕ) → IsCode t → read_code t ≡ Ok t
read_code_of t h = grind (arith, (right_throughout is_code_character t 0).1 h.2)

-- no fault is found in a code
pub no_fault : (t : List ℕ) (e : PackFault) → read_code t ≡ Err e → IsCode t → ⊥
no_fault t e h code = let ok = read_code_of t code in cc

-- what is read is a code
pub read_code_is_code : (t c : List ℕ) → read_code t ≡ Ok c → IsCode c
read_code_is_code t c h = grind (arith, no_wrong_byte)

-- codes are text
pub codes_are_text : (text : List ℕ) → IsCode text → IsUtf8 text
codes_are_text text code = text_of_ascii is_code_character (λ byte h. grind (arith, nat_tests)) text code.2

-- the bytes of a code and the zeros behind it are ASCII
filled_below : (text : List ℕ) (count i : ℕ) → list_all is_code_character text ≡ true → get_or (text ++ replicate count 0) i 0 < 128
filled_below [] count i all = grind (arith, common_steps)
filled_below (byte ∷ text) count zero all = grind (arith, nat_tests)
filled_below (byte ∷ text) count (suc i) all = grind (arith, filled_below text count i)

-- a code with zeros behind it is text
pub filled_up_is_text : (bytes : List ℕ) → IsFilledUp bytes → IsUtf8 bytes
filled_up_is_text bytes filled = subst IsUtf8 (sym filled.1) (IsUtf8-from_ascii _ (λ i. filled_below (text_before bytes) _ i filled.0.2))

count_cons : (p : ℕ → Bool) (byte : ℕ) (text : List ℕ) → count_by p (byte ∷ text) ≡ cond (p byte) 1 0 + count_by p text
count_cons p byte text = sum_by-cons (λ x. cond (p x) 1 0) byte text

-- the characters of a text are filled, and the zeros behind it are not
filled_before_zeros : (text : List ℕ) (count : ℕ) → list_all is_code_character text ≡ true
    → count_by is_filled (text ++ replicate count 0) ≡ length text
filled_before_zeros [] count all = grind (arith, sum_by-replicate)
filled_before_zeros (byte ∷ text) count all =
    grind (arith, count_cons is_filled byte (text ++ replicate count 0), filled_before_zeros text count)

pub text_filled_up : (text : List ℕ) → IsCode text → text_before (filled_up text) ≡ text
text_filled_up text code = grind (arith, filled_before_zeros text (most_code_bytes - length text) code.2, take-append_seam)

pub code_filled_up : (text : List ℕ) → IsCode text → IsFilledUp (filled_up text)
code_filled_up text code = (subst IsCode (sym (text_filled_up text code)) code, ap filled_up (sym (text_filled_up text code)))

-- where as many pass as there are, all pass
all_of_count : (p : ℕ → Bool) (text : List ℕ) → count_by p text ≡ length text → list_all p text ≡ true
all_of_count p [] h = refl
all_of_count p (byte ∷ text) h = grind (arith, count_cons p byte text, count_by-le-length p text, all_of_count p text)

-- a text of 8 to 16 bytes has no wrong byte where all of its first 8 and of its last 8 are characters
pub none_wrong_in_pieces : (t : List ℕ) (front back : ℕ) → 8 ≤ length t → length t ≤ 16 → (front + back == 16) ≡ true
    → front ≡ count_by is_code_character (take 8 t)
    → back ≡ count_by is_code_character (take (length t - (length t - 8)) (drop (length t - 8) t)) → first_wrong t ≡ None
none_wrong_in_pieces t front back least most sixteen is_front is_back =
    let p = is_code_character in
    let a = length t - 8 in
    let piece = take 8 t in
    let whole : count_by p (take a t) + count_by p (drop a t) ≡ count_by p t = sum_by-take-drop _ t a in
    let parts : count_by p (take a piece) + count_by p (drop a piece) ≡ count_by p piece = sum_by-take-drop _ piece a in
    let same = take-take a 8 t (omega arith) in
    let few = count_by-le-length p in
    let last = take_rest t a in
    let sum = eqb-true _ 16 sixteen in
    let ends = rw last at is_back in
    let shared = rw same at parts in
    let short = length-take-le 8 t least in
    let long = length-drop a t in
    let all : count_by p t ≡ length t = omega (arith, sum, few piece, few (drop a t), few (drop a piece), few t, length-drop a piece) in
    (right_throughout p t 0).1 (all_of_count p t all)

-- the first 8 bytes of a text of 8 to 16, and over these its last 8, with zeros behind
pub two_pieces : (t : List ℕ) (k : ℕ) (ys : List ℕ) → 8 ≤ length t → length t ≤ 16 → k ≡ 8 → ys ≡ take k (drop (length t - 8) t) → put_mid (length t - 8) k (take 8 t ++ replicate 12 0) ys ≡ filled_up t
two_pieces t k ys least most eight part =
    let a = length t - 8 in
    let short = length-take-le 8 t least in
    let zeros : List ℕ = replicate 12 0 in
    let front = take-append-le a (take 8 t) zeros (omega (arith, short)) ∙ take-take a 8 t (omega arith) in
    let last = part ∙ take_all k (drop a t) (omega (arith, length-drop a t)) in
    let behind =
    drop-drop k a (take 8 t ++ zeros) ∙ ap (λ n. drop n (take 8 t ++ zeros)) (omega (arith, short))
    ∙ drop-append-add (take 8 t) zeros a ∙ drop-replicate a 12 0 ∙ ap (λ n. replicate n 0) (omega arith) in
    ap₂ (λ x y. x ++ y) front (ap₂ (λ x y. x ++ y) last behind)
    ∙ sym (append_assoc (take a t) (drop a t) _) ∙ ap (λ l. l ++ replicate (20 - length t) 0) (take-append-drop a t)
