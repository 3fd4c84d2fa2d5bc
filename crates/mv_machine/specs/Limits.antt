-- The limits of a system.
use Rattle.std.specs.Prelude.{ℕ, ◌≤◌, ◌&&◌, not, Bool, List, codes, nat_le, if◌then◌else◌, Result, Ok, Err}
use Rattle.mv_machine.specs.Words.{SUBMISSIONS_LIMIT, WINDOW_LEAST, WINDOW_LIMIT}
use Rattle.mv_link.specs.Sending.{IsWindow}
use Rattle.mv_machine.specs.declared.limits.TheConstants.{WIRE_LIMIT, UPLINK_LIMIT}
use Rattle.mv_machine.specs.declared.limits.LimitsFault.{LimitsFault}
use Rattle.mv_machine.specs.declared.limits.LimitsFault.TheVariants.{Window, Wire, Uplink, Submissions}

-- what a system holds at most
pub record Bounds : Type 0 where
  pub window : ℕ  -- items that each link keeps
  pub wire : ℕ  -- frames under way on each link
  pub uplink : ℕ  -- messages of each party under way to the hub
  pub submissions : ℕ  -- messages that each party submits in all

-- the bounds of these numbers
abbrev pub bounds_of : ℕ → ℕ → ℕ → ℕ → Bounds
bounds_of window wire uplink submissions = record { window = window; wire = wire; uplink = uplink; submissions = submissions }

-- the limits that a system may have
pub record AreBounds (bounds : Bounds) : Type 0 where
  pub window : IsWindow bounds.window
  pub wire : (1 ≤ bounds.wire) × (bounds.wire ≤ WIRE_LIMIT)
  pub uplink : (1 ≤ bounds.uplink) × (bounds.uplink ≤ UPLINK_LIMIT)
  pub submissions : (1 ≤ bounds.submissions) × (bounds.submissions ≤ SUBMISSIONS_LIMIT)

-- a number lies between two others
abbrev pub is_between : ℕ → ℕ → ℕ → Bool
is_between least most number = nat_le least number && nat_le number most

-- the limits of these numbers, or the first that is out of its range
abbrev pub limits_of : ℕ → ℕ → ℕ → ℕ → Result Bounds LimitsFault
limits_of window wire uplink submissions =
    if not (is_between WINDOW_LEAST WINDOW_LIMIT window) then Err Window
    else (if not (is_between 1 WIRE_LIMIT wire) then Err Wire
    else (if not (is_between 1 UPLINK_LIMIT uplink) then Err Uplink
    else (if not (is_between 1 SUBMISSIONS_LIMIT submissions) then Err Submissions
    else Ok (bounds_of window wire uplink submissions))))

-- the number of a fault
abbrev pub code_of : LimitsFault → List ℕ
code_of Window = codes "O1"
code_of Wire = codes "O2"
code_of Uplink = codes "O3"
code_of Submissions = codes "O4"
