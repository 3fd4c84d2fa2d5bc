-- What the lines of an input plan, and why an input was not read.
use Rattle.std.specs.Prelude.{◌≡◌, ℕ, List, [], ◌++◌, Option, None, Ok}
use Rattle.std.specs.List.{fold}
use Rattle.std.specs.Io.KnownBytes.{Consumes}
use Rattle.mv_engine.specs.declared.fault.ServeFault.{ServeFault}
use Rattle.mv_engine.specs.declared.fault.ServeFault.TheVariants.{Read}
use Rattle.mv_engine.specs.Lines.{pieces, lines_of, whole_from, KeepLimits}
use Rattle.mv_engine.specs.Served.{StopsAt}
use Rattle.mv_plan.specs.Planning.{Planned, plan_line}

-- All lines of an input keep the limits, and this is what they plan.
abbrev pub IsRead : List ℕ → Planned → Type 0
IsRead bytes planned = KeepLimits 0 (pieces bytes) × (planned ≡ fold plan_line (Ok None) (lines_of (pieces bytes)))

-- Why an input was not read. A read failed behind bytes that keep the limits. Else the reading stopped at a place among the bytes, where a
-- line or a byte came that may not, or memory was refused, and the lines that end before that place keep the limits. No write comes into
-- it, and no start of a thread, since neither stops the taking of bytes.
abbrev pub Unread : ServeFault → Option (List ℕ) → Option (List ℕ) → Type 0
Unread Read input rest = (bytes : List ℕ) × Consumes input rest bytes × KeepLimits 0 (pieces bytes)
Unread fault input rest = (good : List ℕ) × (bad : List ℕ) × Consumes input rest (good ++ bad)
    × StopsAt fault [] 0 good bad × KeepLimits 0 (whole_from [] good)
