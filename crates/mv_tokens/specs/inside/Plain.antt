-- Where the tokens of a text go on.
use Rattle.std.specs.Prelude.{◌≡◌, ℕ, List, ◌∷◌, drop, false}
use Rattle.std.specs.Str.{IsCharBoundary}
use Rattle.json.specs.Token.{Token}
use Rattle.json.specs.Lex.{between, lex, after_value, punctuate, begins_colon, tokens}

-- the tokens of what is left of a text from a place on
abbrev pub tokens_from : List ℕ → ℕ → List Token
tokens_from text at = tokens (drop at text)

-- at a place the token is first, and the others are those from a later place on
pub record Steps (text : List ℕ) (from : ℕ) (token : Token) (at : ℕ) : Type 0 where
  pub tokens : tokens_from text from ≡ token ∷ tokens_from text at
  pub place : IsCharBoundary text at

-- behind a value, which ends at a place, the tokens are those from a later place on
pub record GoesOn (text : List ℕ) (end : ℕ) (at : ℕ) : Type 0 where
  pub tokens : punctuate after_value (lex between (drop end text)) ≡ tokens_from text at
  pub no_colon : begins_colon (lex between (drop end text)) ≡ false
  pub place : IsCharBoundary text at
