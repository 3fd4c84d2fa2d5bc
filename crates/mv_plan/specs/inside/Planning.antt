-- What lines plan: a plan, once a line has opened it, or the refusal of the first line that is refused.
use Rattle.std.specs.Prelude.{◌≡◌, ℕ, List, Option, Some, None, Ok, Err}
use Rattle.mv_plan.specs.Drafts.{Parts}
use Rattle.mv_engine.specs.Lines.{Line}
use Rattle.mv_plan.specs.Planning.{Planned, plan_line}

-- what is planned, by the text of the first refusal, if there is one, and the plan, if one is open
abbrev pub planned_by : Option (List ℕ) → Option Parts → Planned
planned_by None plan = Ok plan
planned_by (Some text) plan = Err text

-- the plan after the line is this; nothing is asked of a reply
abbrev pub IsPlanned : Planned → Line → Option (List ℕ) → Planned → Type 0
IsPlanned before line text after = after ≡ plan_line before line.bytes
