-- The faults of links: their numbers, and how a call fails where memory may be wanting.
use Rattle.std.specs.Prelude.{◌≡◌, ℕ, List, codes, unwrap_or, Option, None, Result, Ok, Err}
use Rattle.mv_link.specs.Words.{Gone, LinkFault, Memory, NotSent, Nothing}

-- the number of a fault
abbrev pub code_of : LinkFault → List ℕ
code_of Nothing = codes "L1"
code_of NotSent = codes "L2"
code_of Gone = codes "L3"
code_of Memory = codes "L4"

-- A call that may meet a fault is refused for that fault, and for nothing else. Where it meets none it is done, or it is refused for
-- want of memory, which this first fault names.
abbrev pub FailsBy : {A F : Type 0} → F → Option F → Result A F → Type 0
FailsBy memory fault (Ok value) = fault ≡ None
FailsBy memory fault (Err refused) = refused ≡ unwrap_or fault memory
