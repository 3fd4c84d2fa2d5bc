-- The numbers by which replies name why a line is refused by what is open, or by its parties or limits.
use Rattle.std.specs.Prelude.{ℕ, List, codes}
use Rattle.mv_hub.specs.Fault.{code_of as hub_code}
use Rattle.mv_machine.specs.Limits.{code_of as limits_code}
use Rattle.mv_format.specs.declared.open_fault.OpenFault.{OpenFault}
use Rattle.mv_format.specs.declared.open_fault.OpenFault.TheVariants.{NotOpen, AlreadyOpen, Parties, Limits, Memory}
-- the words for what reading gives, for those who read lines and openings
pub use Rattle.mv_json.specs.Reading.{◌and_then◌, map_err}

-- the number of a fault
abbrev pub code_of : OpenFault → List ℕ
code_of NotOpen = codes "C1"
code_of AlreadyOpen = codes "C2"
code_of (Parties fault) = hub_code fault
code_of (Limits fault) = limits_code fault
code_of Memory = codes "H7"
