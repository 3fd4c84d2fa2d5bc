-- What is written: the members of objects, and the tokens of JSON that a text is written by.
use Rattle.mv_json.specs.Words.{Data, Field, Members, Token, Version, array, boolean, expiry_text, key, member, no_members, null, option_map_or, string}
use Rattle.mv_json.specs.Fields.{field_name}
use Rattle.mv_json.specs.Values.{since_two, strings, whole}
use Rattle.mv_json.specs.declared.member.Said.{Said}
use Rattle.std.specs.Prelude.{List, [], ◌∷◌, flat_map, Result}
use Rattle.mv_json.specs.declared.field.Field.TheVariants as fields
use Rattle.mv_json.specs.declared.member.Said.TheVariants as says
use Rattle.mv_json.specs.Tokens.{Puts, Written, tokens_of}

-- The same of the tokens of a value.
unfoldable pub PutsValue : {E : Type 0} → Result (Unit {0}) E → Written → Written → Data → Type 0
PutsValue result old new value = Puts result old new (tokens_of value)

-- the value of what is said
abbrev pub said_value : Said → Data
said_value says.Null = null
said_value (says.Text text) = string text.now
said_value (says.Whole number) = whole number
said_value (says.Truth truth) = boolean truth
said_value (says.Expiry expiry) = string (expiry_text expiry.now)
said_value (says.National national) = option_map_or string national.now null
said_value (says.Serials serials) = array (strings serials.now)
said_value (says.Markets markets) = array (strings markets.now)

-- members of an object, in order
abbrev pub members_of : List (Field × Said) → Members
members_of [] = no_members
members_of ((field, said) ∷ rest) = member (field_name field) (said_value said) (members_of rest)

-- the tokens of members
abbrev pub members_put : List (Field × Said) → List Token
members_put members = flat_map (λ member. key (field_name member.0) ∷ tokens_of (said_value member.1)) members

-- the member that says the version, which the first does not have
abbrev pub version_member : Version → List (Field × Said)
version_member version = since_two version [] ((fields.V, says.Whole 2) ∷ [])
