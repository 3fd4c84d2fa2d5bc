-- What the lexer of the library makes of plain text.
use Rattle.mv_tokens.proofs.Words.{content, lex, punctuate, between, in_string, plain, string, token, PlainBetween, IsCharBoundary-after_ascii, IsCharBoundary-start, Decides-eqb, IsNumber-decimal, List, Some, arith, append_assoc, decimal_digit, decimal_step, drop, drop-drop, drop_all, drop_more, get_or, in_word-ended, length, length-drop, lex-number, number_of-decimal, nat_eq, nat_tests, refl, starts_is, starts_with, suc, sym, take, take_all, true, zero, ℕ, ◌++◌, ◌+◌, ◌-◌, ◌<◌, ◌∷◌, ◌≡◌}

-- n plain bytes before a quote are a text without escapes
text_is : (n : ℕ) (d : List ℕ) (from stop : ℕ) → stop ≡ from + n → stop < length d → PlainBetween d from stop → get_or d stop 0 ≡ 34
    → (content plain (drop from d) ≡ Some (take n (drop from d))) × (lex in_string (drop from d) ≡ lex between (drop (stop + 1) d))
unfolding lex content
text_is zero d from stop is within all quoted = grind (arith, nat_tests, drop_more)
text_is (suc n) d from stop is within all quoted = grind (arith, nat_tests, drop_more, all from, text_is n d (from + 1) stop)

-- the text that begins at a quote
pub text_taken : (d : List ℕ) (at stop : ℕ) → at < stop → stop < length d → get_or d at 0 ≡ 34 → PlainBetween d (at + 1) stop
    → get_or d stop 0 ≡ 34
    → lex between (drop at d) ≡ token (string (take (stop - (at + 1)) (drop (at + 1) d))) ∷ lex between (drop (stop + 1) d)
unfolding lex
text_taken d at stop past within opened all closed = grind (arith, nat_tests, drop_more, text_is (stop - (at + 1)) d (at + 1) stop)

-- a word stands at a place
pub word_cut : (d name : List ℕ) (at : ℕ) → starts_with nat_eq (take (length d - at) (drop at d)) name ≡ true
    → (starts_with nat_eq (take (length d - at) (drop at d)) name ≡ true) × (drop at d ≡ name ++ drop (at + length name) d)
word_cut d name at starts =
    let cut = (starts_is Decides-eqb (take (length d - at) (drop at d)) name true (sym starts)).0 refl in
    grind (arith, drop-drop, take_all, length-drop)

-- what the byte at a place makes of a text, and where the next one stands
pub ruleset places = (nat_tests, drop_more, drop_all, IsCharBoundary-start, IsCharBoundary-after_ascii)

-- what the reading of tokens rests on
pub ruleset reading = (places, text_taken, lex-number, IsNumber-decimal, number_of-decimal, word_cut, in_word-ended)

-- what the digits of a whole number rest on
pub ruleset digits = (nat_tests, drop_more, decimal_digit, decimal_step, append_assoc)
