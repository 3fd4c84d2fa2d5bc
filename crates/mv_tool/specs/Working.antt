-- What `work` writes.
use Rattle.std.specs.Prelude.{◌≡◌, ◌↔◌, ℕ, List, ◌∷◌, [], ◌++◌, codes, Bool, false, IsTrue, if◌then◌else◌, Option, Some, None, Ok, Err, IfSome}
use Rattle.mv_tool.specs.Names.{Keeps, Memory, ServeFault, Start, State, Write, WrotePart, report_text}
use Rattle.serde_json.specs.Written.{compact_text}
use Rattle.mv_workers.specs.declared.plan.Plan.{Plan}
use Rattle.mv_workers.specs.Plans.{KeepsPlan, IsComplete}
use Rattle.mv_format.specs.declared.open_fault.OpenFault.TheVariants.{NotOpen}
use Rattle.mv_format.specs.Openings.{code_of}
use Rattle.mv_format.specs.ReplyLines.{refused}
use Rattle.mv_plan.specs.Drafts.{Parts}
use Rattle.mv_plan.specs.Planning.{Planned}
use Rattle.mv_plan.specs.Reading.{IsRead, Unread}

-- the last line: whether the plan was finished
abbrev pub end_line : Bool → List ℕ
end_line finished = if finished then codes "finished\n" else codes "unfinished\n"

-- the parts of a plan that is run
abbrev pub parts_of : Plan → Parts
parts_of plan = record { parties = plan.parties; limits = plan.limits; work = plan.work }

-- The output of what some lines plan, and whether the plan was finished: a refusal, that no line has opened a plan, or the report of an
-- outcome of the plan by so many turns, which says that it is finished exactly where that is complete.
abbrev pub IsOutput : ℕ → Planned → List ℕ → Bool → Type 0
IsOutput turns (Err text) out finished = (out ≡ text ++ 10 ∷ []) × (finished ≡ false)
IsOutput turns (Ok None) out finished = (out ≡ compact_text (refused (code_of NotOpen)) ++ 10 ∷ []) × (finished ≡ false)
IsOutput turns (Ok (Some parts)) out finished =
    (plan : Plan) × (outcome : State) × (parts_of plan ≡ parts) × KeepsPlan plan turns outcome × (IsTrue finished ↔ IsComplete plan outcome)
    × (out ≡ report_text outcome ++ end_line finished)

-- an input was read whole, the fact holds of its output, and whether its plan was finished
abbrev pub Worked : ℕ → List ℕ → Bool → (List ℕ → Type 0) → Type 0
Worked turns bytes finished Went = (planned : Planned) × (out : List ℕ) × IsRead bytes planned × IsOutput turns planned out finished × Went out

-- What a run that ended by a fault has written. Where a write failed: the first bytes of an output of the input. Else nothing: the
-- input was not read, or memory was refused; or, only where the input is a plan, it could not be started.
abbrev pub Failed : ℕ → ServeFault → Option (List ℕ) → Option (List ℕ) → Option (List ℕ) → Option (List ℕ) → Type 0
Failed turns Write input rest old new = IfSome input (λ bytes. (finished : Bool) × Worked turns bytes finished (λ out. WrotePart out old new))
Failed turns Start input rest old new = Keeps old new × IfSome input (λ bytes. (parts : Parts) × IsRead bytes (Ok (Some parts)))
Failed turns Memory input rest old new = Keeps old new
Failed turns fault input rest old new = Keeps old new × Unread fault input rest
