-- Texts of capital letters.
use Rattle.mv_pack.proofs.Words.{IsUtf8, List, Ok, arith, common_steps, get_or, list_all, nat_tests, true, ℕ, ◌≡◌, ◌≤◌}
use Rattle.mv_pack.specs.Market.{is_capital, IsMarket, read_market}
use Rattle.mv_pack.proofs.TextLemmas.{text_of_ascii}

-- capital letters are text
pub capitals_are_text : (xs : List ℕ) → list_all is_capital xs ≡ true → IsUtf8 xs
capitals_are_text xs all = text_of_ascii is_capital (λ c h. grind (arith, nat_tests)) xs all

-- what is read is a market
pub read_market_is_market : (t m : List ℕ) → read_market t ≡ Ok m → IsMarket m
read_market_is_market t m h = grind arith

-- a market is read as it stands
pub read_market_of : (m : List ℕ) → IsMarket m → read_market m ≡ Ok m
read_market_of m h = cc

-- both letters of a market are capitals
pub letters_within : (m : List ℕ) → IsMarket m
    → (65 ≤ get_or m 0 0) × (get_or m 0 0 ≤ 90) × (65 ≤ get_or m 1 0) × (get_or m 1 0 ≤ 90)
letters_within m h = grind (arith, common_steps)
