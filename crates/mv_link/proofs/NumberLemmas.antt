-- Searches and filters over the numbers below a count.
use Rattle.mv_link.proofs.Words.{◌≡◌, ℕ, zero, suc, ◌+◌, ◌<◌, ◌≤◌, Bool, true, false, not, ◌&&◌, List, ◌∷◌, ◌++◌, None, inl, inr, refl, ap, arith, zero-add, filter, find, ◌==◌, IsStrictlyIncreasing, cases_eq, eq-eqb, get_or-range_with_len, length-range_with_len, ne_eqb, range_with_len, those}
use Rattle.std.proofs.lemmas.List.Kept.{IsStrictlyIncreasing-filter}

-- so many numbers, and then more
pub range-append : (a m n : ℕ) → range_with_len a (m + n) ≡ range_with_len a m ++ range_with_len (a + m) n
range-append a zero n = rw (zero-add n) (ap (λ b. range_with_len b n) (omega arith))
range-append a (suc m) n = let count : suc m + n ≡ suc (m + n) = omega arith in grind (arith, range-append (a + 1) m n)

-- the numbers below a count that pass ascend
pub increasing-those : (p : ℕ → Bool) (n : ℕ) → IsStrictlyIncreasing (those p n)
increasing-those p n = grind (arith, IsStrictlyIncreasing-filter, get_or-range_with_len, length-range_with_len)

none-from : (p : ℕ → Bool) (a m i : ℕ) → find p (range_with_len a m) ≡ None → a ≤ i → i < a + m → p i ≡ false
none-from p a zero i none from upto = absurd (omega arith)
none-from p a (suc m) i none from upto = grind (arith, none-from p (a + 1) m i, cases_eq a i)

-- where no number below a count passes, each fails
pub find-none_at : (p : ℕ → Bool) (i n : ℕ) → i < n → find p (range_with_len 0 n) ≡ None → p i ≡ false
find-none_at p i n lt none = none-from p 0 n i none (omega arith) (omega arith)

-- of so many numbers from one on those that pass a test
abbrev passing : (ℕ → Bool) → ℕ → ℕ → List ℕ
passing p a m = filter p (range_with_len a m)

-- where two tests agree on some of the numbers, and of those behind them none passes the first
pub passing-within : (p q : ℕ → Bool) (a m n : ℕ) → n ≤ m → ((x : ℕ) → a ≤ x → x < a + n → p x ≡ q x)
    → ((x : ℕ) → a + n ≤ x → x < a + m → p x ≡ false) → passing p a m ≡ passing q a n
passing-within p q a zero zero few same none = refl
passing-within p q a zero (suc n) few same none = absurd (omega arith)
passing-within p q a (suc m) zero few same none =
    let rest = passing-within p q (a + 1) m zero (omega arith) (λ x low high. absurd (omega arith))
    (λ x low high. none x (omega arith) (omega arith)) in
    grind (arith, none a, rest)
passing-within p q a (suc m) (suc n) few same none =
    let rest = passing-within p q (a + 1) m n (omega arith) (λ x low high. same x (omega arith) (omega arith))
    (λ x low high. none x (omega arith) (omega arith)) in
    grind (arith, same a, rest)

-- the first that passes, and the others
pub passing-first : (p q : ℕ → Bool) (a m first : ℕ) → a ≤ first → first < a + m → p first ≡ true → ((x : ℕ) → x < first → p x ≡ false)
    → ((x : ℕ) → q x ≡ (p x && not (x == first))) → passing p a m ≡ first ∷ passing q a m
passing-first p q a zero first from upto here below rest = absurd (omega arith)
passing-first p q a (suc m) first from upto here below rest = elim (cases_eq a first) [
  | inl same ↦
      let others = passing-within p q (a + 1) m m (omega arith) (λ x low high. grind (arith, rest x, ne_eqb x first))
      (λ x low high. absurd (omega arith)) in
      rw (same, here, rest first, here, eq-eqb first first refl) (ap (λ l. first ∷ l) (rw same at others))
  | inr apart ↦
      rw (below a (omega arith), rest a, below a (omega arith))
      (passing-first p q (a + 1) m first (omega arith) (omega arith) here below rest)
]

-- a search among those that pass a test finds what a search among all does, where no other can be found
pub find-those : (p q : ℕ → Bool) (n : ℕ) → ((x : ℕ) → x < n → q x ≡ false → p x ≡ false) → find p (those q n) ≡ find p (range_with_len 0 n)
find-those p q n others = kept 0 n (λ x low high. others x (omega arith))
  where
    kept : (a m : ℕ) → ((x : ℕ) → a ≤ x → x < a + m → q x ≡ false → p x ≡ false) → find p (passing q a m) ≡ find p (range_with_len a m)
    kept a zero others = refl
    kept a (suc m) others =
        grind (arith, others a (omega arith) (omega arith), kept (a + 1) m (λ x low high. others x (omega arith) (omega arith)))
