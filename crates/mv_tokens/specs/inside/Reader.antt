-- What a reader has left, and what it keeps.
use Rattle.std.specs.Prelude.{◌≡◌, ℕ, ◌≤◌, List, length, None, Some, Option}
use Rattle.std.specs.Borrow.{MutBor}
use Rattle.std.specs.Str.{IsCharBoundary}
use Rattle.json.specs.Scratch.{room}
use Rattle.json.specs.declared.scratch.Scratch.{Scratch}
use Rattle.json.specs.Token.{Token}
use Rattle.mv_tokens.specs.declared.reader.Reader.TheInside.{Inside}
use Rattle.mv_tokens.specs.inside.Plain.{tokens_from}

-- there is memory for a text of that length
abbrev pub HasRoom : {A : Type 0} → Option (MutBor (Scratch A)) → ℕ → Type 0
HasRoom None len = ⊥
HasRoom (Some scratch) len = len ≤ room scratch.now

-- the tokens that the library's reader has left, once it reads, and else those of the text
abbrev pub left_of : Option (List Token) → List ℕ → ℕ → List Token
left_of None text at = tokens_from text at
left_of (Some left) text at = left

abbrev pub tokens_left : Inside → List Token
tokens_left a = left_of a.library a.text.now a.at

-- once the library reads, the text itself is at its end, and before that there is memory for it
abbrev pub IsReady : {A : Type 0} → Option (List Token) → Option (MutBor (Scratch A)) → List ℕ → ℕ → Type 0
IsReady None scratch text at = HasRoom scratch (length text)
IsReady (Some left) scratch text at = at ≡ length text

pub record IsReader (a : Inside) : Type 0 where
  pub place : IsCharBoundary a.text.now a.at
  pub ready : IsReady a.library a.scratch a.text.now a.at
