-- Lemmas on bytes that end no line, and on the place of the first line feed.
use Rattle.mv_engine.proofs.Words.{◌≡◌, ℕ, ◌+◌, ◌-◌, ◌<◌, ◌≤◌, suc, List, [], ◌∷◌, ◌++◌, length, refl, sym, arith, append_assoc, Some, None, take, drop, get_or, drop-cons, append-nil, nat_tests, ne_eqb, eq-eqb, common_steps, take-append-drop, LineTooLong, whole_from, rest_from, line_limit, lines_limit, IsUnended, StopsAt, StopsIn}
use Rattle.memchr.specs.Find.{IsFirstByte, is_byte}

-- nothing ends no line
pub unended_nil : IsUnended []
unended_nil k within = absurd (omega arith)

-- bytes that end no line are no whole piece
pub unended_whole : (begun xs : List ℕ) → IsUnended xs → whole_from begun xs ≡ []
unended_whole begun [] unended = refl
unended_whole begun (x ∷ xs) unended =
    rw (ne_eqb x 10 (unended 0 (omega arith))) (unended_whole (begun ++ x ∷ []) xs (λ k h. unended (suc k) (omega (arith, h))))

-- and are put behind what has begun
pub unended_rest : (begun xs : List ℕ) → IsUnended xs → rest_from begun xs ≡ begun ++ xs
unended_rest begun [] unended = sym (append-nil begun)
unended_rest begun (x ∷ xs) unended =
    grind (arith, unended_rest (begun ++ x ∷ []) xs (λ k h. unended (suc k) (omega (arith, h))), append_assoc, ne_eqb x 10 (unended 0 (omega arith)))

-- the first of them end no line either
pub unended_front : (xs ys : List ℕ) → IsUnended (xs ++ ys) → IsUnended xs
unended_front xs ys unended = λ k within. grind (arith, common_steps, unended k)

-- bytes that make the line too long stop where it is full
pub too_long : (begun part : List ℕ) (count : ℕ) → IsUnended part → count < lines_limit → length begun ≤ line_limit
    → line_limit < length begun + length part → StopsIn LineTooLong begun count part
too_long begun part count unended few short over =
    let room = line_limit - length begun in
    let fits : room < length part = omega arith in
    let good = unended_front (take room part) (drop room part) (rw (take-append-drop room part) unended) in
    let rest = unended_rest begun (take room part) good in
    let stops : StopsAt LineTooLong begun count (take room part) (drop room part) =
    grind (arith, common_steps, unended_whole begun (take room part) good, drop-cons part room 0, unended room) in
    (_, _, sym (take-append-drop room part), stops)

-- bytes in which no line feed is found end no line
pub absent_unended : (xs : List ℕ) → IsFirstByte (is_byte 10) xs None → IsUnended xs
absent_unended xs absent = λ k within feed. absent k (omega arith) within (eq-eqb (get_or xs k 0) 10 feed)

-- where one is found, it ends the bytes before it
pub cut_line : (xs : List ℕ) (i : ℕ) → IsFirstByte (is_byte 10) xs (Some i) → xs ≡ take i xs ++ 10 ∷ take (length xs - (i + 1)) (drop (i + 1) xs)
cut_line xs i (first, feed) = grind (arith, nat_tests, common_steps)
