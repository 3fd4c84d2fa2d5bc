-- JSON objects, by the keys of their members and the values that these have.
use Rattle.std.specs.Prelude.{ℕ, List}
use Rattle.mv_format.specs.Words.{Data, members_with, object}

-- the object of these members
abbrev pub object_of : List (List ℕ × Data) → Data
object_of members = object (members_with members)
