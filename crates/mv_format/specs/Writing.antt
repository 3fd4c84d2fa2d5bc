-- What is written of a reply's object.
use Rattle.std.specs.Prelude.{◌≡◌, ℕ, List, [], ◌∷◌, ◌++◌, codes, map, Option, Some, None, option_map, Result, MatchResult}
use Rattle.mv_format.specs.Words.{Data, Member, Members, Token, array, boolean, member, no_members, null, option_map_or, string, value_of, whole}
use Rattle.json.specs.Tree.{json_tokens}
use Rattle.mv_json.specs.Tokens.{Puts, Written}
use Rattle.serde_json.specs.Written.{outline, compact_text}
use Rattle.mv_repository.specs.declared.held.Change.{Change}
use Rattle.mv_format.specs.Meanings.{markets_value}
use Rattle.mv_format.specs.Objects.{object_of}
use Rattle.mv_format.specs.ReplyLines.{wholes}
use Rattle.mv_format.specs.declared.members.Member.TheVariants as members

-- a national number; null where there is none
abbrev pub national_value : Option (List ℕ) → Data
national_value national = option_map_or string national null

-- what changed a pack: the moment, the party that asked for it, and its user; null where nothing did
abbrev pub change_value : Option Change → List ℕ → Data
change_value None user = null
change_value (Some change) user =
    object_of ((codes "at", whole change.at) ∷ (codes "by", whole change.by) ∷ (codes "user", string user) ∷ [])

-- the members of an object, but for those that have no value
abbrev pub members_where : List (List ℕ × Option Data) → Members
members_where [] = no_members
members_where ((name, None) ∷ rest) = members_where rest
members_where ((name, Some value) ∷ rest) = member name value (members_where rest)

-- the key of a member, and its value, if there is one
abbrev pub entry_of : Member → List ℕ × Option Data
entry_of (members.Number name n) = (name.now, Some (whole n))
entry_of (members.Text name text) = (name.now, Some (string text.now))
entry_of (members.Flag name flag) = (name.now, Some (boolean flag))
entry_of (members.NumberOrNone name number) = (name.now, option_map whole number)
entry_of (members.FlagOrNone name flag) = (name.now, option_map boolean flag)
entry_of (members.Null name) = (name.now, Some null)
entry_of (members.Parties name parties) = (name.now, Some (array (wholes parties.now)))
entry_of (members.Numbers name numbers) = (name.now, Some (array (wholes numbers.now)))
entry_of (members.Markets name lists) = (name.now, Some (markets_value lists.now))
entry_of (members.Message name message) = (name.now, Some (value_of message.now))
entry_of (members.National name national) = (name.now, Some (national_value national.now))
entry_of (members.Change name change user) = (name.now, Some (change_value change.now user.now))

-- the members, in order
abbrev pub members_of : List Member → Members
members_of ms = members_where (map entry_of ms)

-- the tokens of a value
unfoldable pub tokens_of : Data → List Token
tokens_of value = json_tokens (outline value)

-- the text of the value came behind what was written
abbrev pub Adds : {E : Type 0} → Result (Unit {0}) E → Written → Written → Data → Type 0
Adds result old new value = Puts result old new (tokens_of value)

-- the canonical text of the value came behind these bytes, or they are as they were
abbrev pub Appended : {E : Type 0} → Result (Unit {0}) E → List ℕ → List ℕ → Data → Type 0
Appended result old new value = MatchResult result (λ _. new ≡ old ++ compact_text value) (λ _. new ≡ old)
