-- Moments, in whole seconds since 1970-01-01T00:00:00Z.
use Rattle.std.specs.Prelude.{ℕ, ◌<◌, nat_lt, if◌then◌else◌, Result, Ok, Err}
use Rattle.mv_pack.specs.Words.{Moment, PackFault}

-- the first second of the year 2100: 130 years of 365 days and 32 leap days after 1970-01-01, of 86,400 seconds each
abbrev pub year_2100 : ℕ
year_2100 = 4102444800

-- a moment before the year 2100
abbrev pub IsMoment : ℕ → Type 0
IsMoment seconds = seconds < year_2100

-- what reading a number of seconds gives: the moment, or the fault
abbrev pub read_moment : ℕ → Result ℕ PackFault
read_moment seconds = if nat_lt seconds year_2100 then Ok seconds else Err Moment
