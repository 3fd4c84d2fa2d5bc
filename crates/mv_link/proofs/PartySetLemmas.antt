-- Sets of parties, by the bits of their words.
use Rattle.mv_link.proofs.Words.{◌≡◌, ℕ, ◌-◌, ◌*◌, ◌^◌, ◌/◌, ◌%◌, ◌<◌, ◌≤◌, Bool, true, false, not, ◌&&◌, ◌||◌, [], ◌∷◌, length, w64, bit_and, bit_or, refl, arith, inl, inr, ◌==◌, IsStrictlyIncreasing, cases_eq, cases_lt, eq-eqb, has_party, length-range_with_len, nat_tests, parties_in, range_with_len, those}
use Rattle.std.specs.Int.{trailing_zeros}
use Rattle.std.proofs.lemmas.Nat.{and_le_l}
use Rattle.std.proofs.lemmas.Nat.Bits.{bit_at-lt, bit_at-zero, bit_at_and, bit_at_or, bit_at_above, bit_at_set_same, bit_at_set_other, bit_at_clear_same, bit_at_clear_other, bit_at-trailing_zeros, bit_at_ones, shr_and_one}
use Rattle.std.proofs.lemmas.List.Filters.{length-filter_both}
use Rattle.mv_link.specs.declared.party_set.PartySet.{PartySet}
use Rattle.mv_link.proofs.NumberLemmas.{increasing-those, passing-first, passing-within}

-- what each change of a word does to the parties of its set
pub has_and : (a b : PartySet) (party : ℕ)
    → has_party (record { bits = bit_and a.bits b.bits }) party ≡ (has_party a party && has_party b party)
unfolding has_party
has_and a b party = grind (arith, bit_at_and, bit_at-lt, nat_tests)

pub has_or : (a b : PartySet) (party : ℕ)
    → has_party (record { bits = bit_or a.bits b.bits }) party ≡ (has_party a party || has_party b party)
unfolding has_party
has_or a b party = grind (arith, bit_at_or, bit_at-lt, nat_tests)

pub has_with : (set : PartySet) (party other : ℕ) → party < 64
    → has_party (record { bits = bit_or set.bits (1 * 2 ^ party % 2 ^ 64) }) other ≡ (has_party set other || (other == party))
unfolding has_party
has_with set party other lt = grind (arith, bit_at_set_same w64 set.bits party lt, bit_at_set_other w64 set.bits party lt other)

pub has_without : (set : PartySet) (party other : ℕ) → party < 64 → set.bits < 2 ^ 64
    → has_party (record { bits = bit_and set.bits (2 ^ 64 - 1 - 1 * 2 ^ party % 2 ^ 64) }) other
    ≡ (has_party set other && not (other == party))
unfolding has_party
has_without set party other lt fits = elim (cases_lt other 64) [
  | inl within ↦ grind (arith, cases_eq other party, bit_at_clear_same w64 set.bits party lt, bit_at_clear_other w64 set.bits party lt other within)
  | inr beyond ↦
      let mask = 2 ^ 64 - 1 - 1 * 2 ^ party % 2 ^ 64 in
      rw (bit_at_above (bit_and set.bits mask) 64 other (omega (arith, and_le_l set.bits mask)) beyond, bit_at_above set.bits 64 other fits beyond)
]

-- the least party of a set that is not empty
pub first_in : (set : PartySet) → 0 < set.bits → set.bits < 2 ^ 64
    → (trailing_zeros w64 set.bits < 64) × (has_party set (trailing_zeros w64 set.bits) ≡ true)
unfolding has_party
first_in set some fits = grind (arith, bit_at-trailing_zeros w64 set.bits some fits)

-- and the list of the set without it
pub rest_in : (set rest : PartySet) → 0 < set.bits → set.bits < 2 ^ 64
    → ((other : ℕ) → has_party rest other ≡ (has_party set other && not (other == trailing_zeros w64 set.bits)))
    → parties_in set ≡ trailing_zeros w64 set.bits ∷ parties_in rest
unfolding has_party parties_in
rest_in set rest some fits without =
    let found = bit_at-trailing_zeros w64 set.bits some fits in
    passing-first _ _ 0 64 (trailing_zeros w64 set.bits) (omega arith) found.0 (eq-eqb _ 1 found.1) (λ x below. grind (arith, found.2 x below)) without

-- a word without bits
pub none_in : (set : PartySet) → set.bits ≡ 0 → parties_in set ≡ []
unfolding has_party parties_in
none_in set none =
    passing-within (has_party set) (has_party set) 0 64 0 (omega arith) (λ x low high. absurd (omega arith)) (λ x low high. rw (none, bit_at-zero x))

-- and no set has more than there may be
pub few-in : (set : PartySet) → length (parties_in set) ≤ 64
unfolding parties_in
few-in set = omega (arith, length-filter_both (has_party set) (λ x. not (has_party set x)) (λ x. refl) (range_with_len 0 64), length-range_with_len 0 64)

-- the parties of a set are those below a count that pass a test, where it has these alone
pub listed-in : (set : PartySet) (test : ℕ → Bool) (n : ℕ) → n ≤ 64 → ((party : ℕ) → party < n → has_party set party ≡ test party)
    → ((party : ℕ) → n ≤ party → has_party set party ≡ false) → parties_in set ≡ those test n
unfolding parties_in
listed-in set test n few same none =
    passing-within (has_party set) test 0 64 n few (λ x low high. same x (omega arith)) (λ x low high. none x (omega arith))

-- what a bit says, and the word of all bits
pub has_is : (set : PartySet) (party : ℕ) → (bit_and (set.bits / 2 ^ party) 1 == 1) ≡ has_party set party
unfolding has_party
has_is set party = rw (shr_and_one set.bits party)

pub has_all : (party : ℕ) → party < 64 → has_party (record { bits = 2 ^ 64 - 1 }) party ≡ true
unfolding has_party
has_all party below = rw (bit_at_ones 64 party below)

-- the parties of a set ascend
pub increasing-in : (set : PartySet) → IsStrictlyIncreasing (parties_in set)
unfolding parties_in
increasing-in set = increasing-those (has_party set) 64

-- a word without bits has no party
pub empty_has : (set : PartySet) (party : ℕ) → set.bits ≡ 0 → has_party set party ≡ false
unfolding has_party
empty_has set party none = rw (none, bit_at-zero party)
