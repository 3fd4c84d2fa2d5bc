-- The tokens of JSON that a value is read from.
use Rattle.std.specs.Prelude.{◌≡◌, ◌≤◌, ℕ, List, Some}
use Rattle.mv_json.specs.Words.{Data, Token, converted, of_json}
use Rattle.json.specs.Json.{value}

-- the tokens are this value of JSON, wherever it may nest so deep, then the rest
abbrev pub BeginWith : ℕ → List Token → Data → List Token → Type 0
BeginWith deep ts found rest = (depth : ℕ) → deep ≤ depth → converted of_json (value depth ts) ≡ Some (found, rest)
