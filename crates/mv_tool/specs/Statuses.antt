-- The exit statuses of the program.
use Rattle.std.specs.Prelude.{ℕ}
use Rattle.mv_tool.specs.Names.{Done, Failed, Refused, Status}

-- the number that the program ends with
abbrev pub status_code : Status → ℕ
status_code Done = 0
status_code Failed = 1
status_code Refused = 2
