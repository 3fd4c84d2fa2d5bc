-- The JSON values of what fields say, and the members of objects.
use Rattle.std.specs.Prelude.{ℕ, List, [], ◌∷◌, map}
use Rattle.mv_json.specs.Words.{Data, Items, Members, One, Two, Version, items_of, member, no_members, number, string, unsigned}

-- a list of texts
abbrev pub strings : List (List ℕ) → Items
strings texts = items_of (map string texts)

-- a whole number
abbrev pub whole : ℕ → Data
whole n = number (unsigned n)

-- what stood before the second version, and what stands from it on
abbrev pub since_two {ℓ} : {A : Type ℓ} → Version → A → A → A
since_two One before now = before
since_two Two before now = now

-- the members of an object, by their keys
abbrev pub members_with : List (List ℕ × Data) → Members
members_with [] = no_members
members_with ((key, value) ∷ rest) = member key value (members_with rest)
