-- The numbers by which replies name the faults of values.
use Rattle.std.specs.Prelude.{ℕ, List, codes}
use Rattle.mv_pack.specs.Words.{Character, CheckDigit, Date, Digit, Empty, Length, Market, Moment, PackFault, TooLong}

-- the number of a fault
abbrev pub code_of : PackFault → List ℕ
code_of Length = codes "P1"
code_of Digit = codes "P2"
code_of CheckDigit = codes "P3"
code_of Empty = codes "P4"
code_of TooLong = codes "P5"
code_of (Character place) = codes "P6"
code_of Date = codes "P7"
code_of Market = codes "P8"
code_of Moment = codes "P9"
