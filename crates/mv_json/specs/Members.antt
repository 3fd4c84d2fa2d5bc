-- The keys of a JSON object, in the byte order in which an object holds them.
use Rattle.std.specs.Prelude.{◌≡◌, ℕ, not, List, [], ◌∷◌, Contains, bytes_eq, find, Option}
use Rattle.mv_json.specs.Words.{AllByRecursion, Data, Members, list_any, member, no_members, object}

-- the keys of an object, in order
abbrev pub keys_of : Members → List (List ℕ)
keys_of no_members = []
keys_of (member key value members) = key ∷ keys_of members

-- the first key of an object that is none of these names
abbrev pub first_unknown : List (List ℕ) → Members → Option (List ℕ)
first_unknown names members = find (λ key. not (list_any (bytes_eq key) names)) (keys_of members)

-- the value is an object that has no key but these
abbrev pub HasOnly : List (List ℕ) → Data → Type 0
HasOnly names value = (members : Members) × (value ≡ object members) × AllByRecursion (Contains names) (keys_of members)
