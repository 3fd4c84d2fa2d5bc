-- Lemmas on what `work` writes.
use Rattle.mv_machine.specs.State.{State}
use Rattle.mv_workers.specs.declared.plan.Plan.{Plan}
use Rattle.mv_workers.specs.declared.plan.WorkFault.{WorkFault}
use Rattle.mv_workers.specs.Plans.{IsSound, KeepsPlan, IsComplete, Faults}
use Rattle.mv_tool.specs.declared.working.Output.{Output}
use Rattle.mv_tool.proofs.Words.{Appends, Bool, IfSome, List, Option, Worked, output_of, ◌≡◌, ℕ, string_bytes, IfOk, IfErr, Some, Result, Ok, parts_of, IsOutput, arith, nat_tests}
use Rattle.mv_plan.specs.Drafts.{Parts}
use Rattle.mv_plan.specs.Planning.{Planned}
use Rattle.mv_plan.specs.Reading.{IsRead}
use Rattle.mv_engine.specs.Output.{WrotePart}

-- what is written of the run of a plan is the report of an outcome of it
pub run_reported : (output : Output) (turns : ℕ) (plan : Plan) (parts : Parts) (ran : Result State WorkFault)
    → IfOk ran (λ outcome. IsSound plan × KeepsPlan plan turns outcome × IsComplete plan outcome) → IfErr ran (λ fault. Faults plan turns fault) → parts_of plan ≡ parts
    → output_of ran ≡ Ok (string_bytes output.text, output.finished)
    → IsOutput turns (Ok (Some parts)) (string_bytes output.text) output.finished
run_reported output turns plan parts ran kept fails same is = grind (arith, nat_tests)

-- the output of an input that was read went out
pub worked_whole : (turns : ℕ) (input : Option (List ℕ)) (planned : Planned) (old new : Option (List ℕ)) (text out : List ℕ) (finished : Bool)
    → IfSome input (λ bytes. IsRead bytes planned) → IsOutput turns planned text finished → out ≡ text → Appends old new out
    → IfSome input (λ bytes. Worked turns bytes finished (Appends old new))
worked_whole turns input planned old new text out finished read output same written = grind arith

-- the first bytes of the output of an input that was read went out
pub worked_part : (turns : ℕ) (input : Option (List ℕ)) (planned : Planned) (old new : Option (List ℕ)) (text out : List ℕ) (finished : Bool)
    → IfSome input (λ bytes. IsRead bytes planned) → IsOutput turns planned text finished → out ≡ text → WrotePart out old new
    → IfSome input (λ bytes. (done : Bool) × Worked turns bytes done (λ whole. WrotePart whole old new))
worked_part turns input planned old new text out finished read output same written = grind arith
