-- What a line asks, or its first fault.
use Rattle.std.specs.Prelude.{ℕ, List, [], ◌∷◌, Result, Ok, Err, ok_or}
use Rattle.mv_format.specs.Words.{Data, LineFault, LineField, LineKind, NotJson, NotObject, Request, Unknown, as_object, first_unknown, json_value, option_map_or, ◌and_then◌}
use Rattle.mv_format.specs.Kinds.{Asking, shape_of, names_of, kind_at}
use Rattle.mv_format.specs.Meanings.{meaning_of}

-- what a line asks by these fields, each of which is read in its turn
abbrev pub asked_at : (others : List LineField) → Asking others → Data → Result Request LineFault
asked_at [] request value = Ok request
asked_at (field ∷ rest) asks value = (meaning_of field).read value and_then λ meaning. asked_at rest (asks meaning) value

-- what the fields of a line of a kind ask
unfoldable pub request_at : LineKind → Data → Result Request LineFault
request_at kind value = asked_at (shape_of kind).0 (shape_of kind).1 value

-- What the value of a line asks, or the first fault: M2, those of `do`, M4 with the first key that the kind does not have, then those
-- of each field.
unfoldable pub read_request : Data → Result Request LineFault
read_request value =
    ok_or (as_object value) NotObject and_then λ members.
    kind_at value and_then λ kind.
    option_map_or (λ key. Err (Unknown key)) (first_unknown (names_of kind) members) (request_at kind value)

-- what a line asks, or the first fault: M1, then those of its value
abbrev pub read_line : List ℕ → Result Request LineFault
read_line line = ok_or (json_value line) NotJson and_then read_request
