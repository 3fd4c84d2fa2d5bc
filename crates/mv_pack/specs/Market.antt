-- Markets: the Member States that a product is sold in, by the two capital letters of ISO 3166-1.
use Rattle.std.specs.Prelude.{◌≡◌, ℕ, ◌+◌, ◌-◌, ◌*◌, ◌==◌, ◌&&◌, Bool, List, length, slice_index, nat_le, if◌then◌else◌, IsTrue, Result, Ok, Err}
use Rattle.mv_pack.specs.Words.{Market, PackFault, list_all}

-- a byte is one of the letters A to Z
abbrev pub is_capital : ℕ → Bool
is_capital byte = nat_le 65 byte && nat_le byte 90

-- two capital letters
abbrev pub IsMarket : List ℕ → Type 0
IsMarket text = (length text ≡ 2) × IsTrue (list_all is_capital text)

-- what reading a text gives: the market, or the fault
abbrev pub read_market : List ℕ → Result (List ℕ) PackFault
read_market text = if (length text == 2) && list_all is_capital text then Ok text else Err Market

-- the place of a market among all that there can be, in the order of their letters, from 0
abbrev pub place_of : List ℕ → ℕ
place_of market = (slice_index market 0 - 65) * 26 + (slice_index market 1 - 65)
