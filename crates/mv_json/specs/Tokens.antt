-- The tokens of JSON that a value is written by, and what a writer of text makes of them.
use Rattle.mv_json.specs.Words.{Data, Token, outline}
use Rattle.std.specs.Prelude.{◌≡◌, ℕ, List, ◌++◌, Bool, fold, Result, OnOk}
use Rattle.json.specs.Print.{ends, print_from}
use Rattle.json.specs.Tree.{json_tokens}

-- the tokens of a value
abbrev pub tokens_of : Data → List Token
tokens_of value = json_tokens (outline value)

-- what the buffer held, the text behind it, and whether that ends with a value
pub record Written : Type 0 where
  pub before : List ℕ
  pub text : List ℕ
  pub after_value : Bool

-- What the buffer held stays, and, unless memory ran out, the text of these tokens stands behind the text that stood there.
pub record Puts {E : Type 0} (result : Result (Unit {0}) E) (old new : Written) (tokens : List Token) : Type 0 where
  pub before : new.before ≡ old.before
  pub text : OnOk result (new.text ≡ old.text ++ print_from old.after_value tokens)
  pub place : OnOk result (new.after_value ≡ fold (λ _ token. ends token) old.after_value tokens)
