-- The laws of the pieces of an input, and of its lines.
use Rattle.mv_engine.proofs.Words.{All, All-cons, IsUnended, List, [], append-nil, append_assoc, arith, common_steps, flat_map, flat_map-append, lines_from, lines_of, map, map-append, nat_tests, pieces, refl, rest_from, rules, strip_last, suc, sym, text_lines, unless_empty, whole_from, ℕ, ◌++◌, ◌+◌, ◌∷◌, ◌≡◌}
use Rattle.mv_engine.proofs.RepliesLemmas.{whole_from-append, rest_from-append}
use Rattle.mv_engine.proofs.PartLemmas.{unended_nil, unended_whole, unended_rest}

-- The bytes behind what had begun are its pieces, each with its line feed, and what stands behind the last one.
pub rejoined : (begun xs : List ℕ) → text_lines (whole_from begun xs) ++ rest_from begun xs ≡ begun ++ xs
rejoined begun [] = sym (append-nil begun)
rejoined begun (x ∷ xs) = grind (arith, rejoined [] xs, rejoined (begun ++ x ∷ []) xs, append_assoc)

-- one more byte that is no line feed
unended_more : (begun : List ℕ) (x : ℕ) → IsUnended begun → (x ≡ 10 → ⊥) → IsUnended (begun ++ x ∷ [])
unended_more begun x unended other = λ k within. grind (arith, common_steps, unended k, other)

-- no piece has a line feed in it, where what had begun has none
pub unended_from : (begun xs : List ℕ) → IsUnended begun → All IsUnended (whole_from begun xs ++ unless_empty (rest_from begun xs))
unended_from [] [] unended = search rules
unended_from (b ∷ begun) [] unended = search rules
unended_from begun (x ∷ xs) unended =
    search (rules, nat_tests, All-cons, unended_from [] xs unended_nil, unended_from (begun ++ x ∷ []) xs, unended_more begun x unended)

-- a first piece, with its line feed behind it
first_piece : (piece more : List ℕ) → IsUnended piece → pieces (piece ++ 10 ∷ more) ≡ piece ∷ pieces more
first_piece piece more unended = grind (arith, rest_from-append, unended_rest, unended_whole, whole_from-append)

-- texts without line feeds, written with one behind each, and a last one with none behind it
pub pieces_read_back : (texts : List (List ℕ)) (last : List ℕ) → All IsUnended texts → IsUnended last
    → pieces (text_lines texts ++ last) ≡ texts ++ unless_empty last
pieces_read_back [] last all unended = rw (unended_whole [] last unended, unended_rest [] last unended)
pieces_read_back (text ∷ texts) last all unended =
    let first = first_piece text (text_lines texts ++ last) (all 0 text (omega arith)) in
    grind (arith, nat_tests, common_steps, pieces_read_back texts last (λ k d within. all (suc k) d (omega arith)) unended)

-- the pieces of two parts with a line feed between them
pub between : (front back : List ℕ) → pieces (front ++ 10 ∷ back) ≡ whole_from [] front ++ (rest_from [] front ∷ pieces back)
between front back = grind (arith, nat_tests, append_assoc, rest_from-append, whole_from-append)

-- the bytes of the lines that pieces are, whatever came before them
pub lines_bytes : (count : ℕ) (ps : List (List ℕ)) → map (λ line. line.bytes) (lines_from count ps) ≡ flat_map (λ p. unless_empty (strip_last 13 p)) ps
lines_bytes count [] = refl
lines_bytes count (piece ∷ ps) = grind (arith, nat_tests, map-append, lines_bytes (count + 1) ps)

-- what the laws rest on
pub ruleset laws = (nat_tests, append_assoc, append-nil, rejoined, unended_nil, unended_from, pieces_read_back, between, lines_bytes, flat_map-append)
