-- The numbers by which replies name the faults of messages.
use Rattle.std.specs.Prelude.{ℕ, List, codes}
use Rattle.mv_json.specs.Words.{Count, Kind, Memory, MessageFault, Missing, NotJson, NotObject, Pack, TextLength, Unknown}

-- the number of a fault
abbrev pub code_of : MessageFault → List ℕ
code_of NotJson = codes "M1"
code_of NotObject = codes "M2"
code_of (Missing field) = codes "M3"
code_of (Unknown name) = codes "M4"
code_of (Kind field) = codes "M5"
code_of (Pack field fault) = codes "M6"
code_of (Count field) = codes "M7"
code_of (TextLength field) = codes "M8"
code_of Memory = codes "M9"
