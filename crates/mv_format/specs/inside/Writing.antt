-- What is written of a reply's object.
use Rattle.std.specs.Prelude.{ℕ, List, [], ◌∷◌, Option, Some, None, flat_map}
use Rattle.mv_format.specs.Words.{Data, Member, Token, key}
use Rattle.mv_format.specs.Writing.{entry_of, tokens_of}

-- the tokens of a key and of its value, if there is one
abbrev pub entry_tokens : List ℕ → Option Data → List Token
entry_tokens name None = []
entry_tokens name (Some value) = key name ∷ tokens_of value

-- the tokens of a member
abbrev pub member_tokens : Member → List Token
member_tokens m = entry_tokens (entry_of m).0 (entry_of m).1

-- the tokens of members, in order
abbrev pub entries_put : List (List ℕ × Data) → List Token
entries_put members = flat_map (λ member. key member.0 ∷ tokens_of member.1) members
