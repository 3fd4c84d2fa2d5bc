-- Lemmas on the report.
use Rattle.mv_ends.proofs.Words.{IfOk, List, OnOk, Result, [], ap, append-nil, append_assoc, arith, codes, decimal, false, filter, flat_map, head_line, in_ten_places, is_closing, length, party_line, range_with_len, refl, repeat, replicate, report_text, suc, zero, ℕ, ◌++◌, ◌+◌, ◌-◌, ◌^◌, ◌∷◌, ◌≡◌, nat_tests, flat_map_more, range-append}
use Rattle.std.specs.Fmt.{padded_integral, format_spec, char_count}
use Rattle.std.proofs.lemmas.Str.{encode_ascii}
use Rattle.mv_machine.specs.State.{State}

-- blanks, one by one
blanks : (n : ℕ) → repeat {A = ℕ} n (32 ∷ []) ≡ replicate n 32
blanks zero = refl
blanks (suc n) = ap (λ l. 32 ∷ l) (blanks n)

-- a number as the library writes it in ten places
pub padded_number : (n : ℕ) → padded_integral (format_spec 32 3 0 10 (2 ^ 64 - 1)) false [] (decimal n) ≡ in_ten_places n
unfolding padded_integral char_count in_ten_places
padded_number n = grind (arith, encode_ascii, append-nil, blanks)

-- the line of one more party is written
pub lines_more : (f : ℕ → List ℕ) (head was now : List ℕ) (n : ℕ) → was ≡ head ++ flat_map f (range_with_len 0 n) → now ≡ was ++ f n
    → now ≡ head ++ flat_map f (range_with_len 0 (n + 1))
lines_more f head was now n before line = grind (arith, flat_map_more, range-append)

-- all lines of a report are written
pub report_whole : (outcome : State) (count closed : ℕ) (lines whole : List ℕ) → count ≡ length outcome.hub.parties → closed ≡ length (filter is_closing outcome.hub.entries)
    → lines ≡ head_line ++ flat_map (party_line outcome) (range_with_len 0 count)
    → whole ≡ lines ++ (codes "closed links: " ++ (decimal closed ++ 10 ∷ []))
    → whole ≡ report_text outcome
unfolding report_text
report_whole outcome count closed lines whole all closes lines_are whole_is = rw (whole_is, lines_are, all, closes) refl

-- a line came behind what was written
pub line_behind : {E : Type 0} (r : Result (Unit {0}) E) (old new written line : List ℕ) → OnOk r (new ≡ old ++ written) → written ≡ line → IfOk r (λ _. new ≡ old ++ line)
line_behind r old new written line behind same = grind (arith, nat_tests)

-- what is written of a party
pub ruleset line = (nat_tests, append_assoc, padded_number, line_behind)
