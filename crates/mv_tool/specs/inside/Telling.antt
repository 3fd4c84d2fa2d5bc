-- What standard error is told of a strict run and of codes; and what `work` writes.
use Rattle.std.specs.Prelude.{◌≡◌, ℕ, List, [], ◌∷◌, ◌++◌, codes, Option, Some, None, OnOk, MatchResult, Result, Bool, true, false, Ok, Err}
use Rattle.mv_tool.specs.Names.{Appends, Done, Failed, Keeps, Refused, ServeFault, Status, WrotePart, first_unknown, lines_of, Memory, Start, State, report_text}
use Rattle.mv_lines.specs.declared.strict.Untaken.{Untaken}
use Rattle.mv_tool.specs.Telling.{untaken_line}
use Rattle.mv_workers.specs.declared.plan.WorkFault.{WorkFault}
use Rattle.mv_tool.specs.Working.{end_line}
use Rattle.mv_workers.specs.declared.plan.WorkFault.TheVariants as faults

-- the line on a word that is no code
abbrev pub no_code_line : List ℕ → List ℕ
no_code_line word = codes "mvhub: no such code: " ++ word ++ 10 ∷ []

-- What is told of a strict run, by how it ended and the lines that were not taken, and its status. Where there are such lines, they are told,
-- and behind a whole input nothing else.
abbrev pub ToldStrict : Result (Unit {0}) ServeFault → Option Untaken → Status → Option (List ℕ) → Option (List ℕ) → Type 0
ToldStrict ended None status old new = MatchResult ended (λ _. (status ≡ Done) × Keeps old new) (λ _. status ≡ Failed)
ToldStrict ended (Some untaken) status old new = (status ≡ Failed) × OnOk ended (WrotePart (untaken_line untaken) old new)

-- What is written of codes, and told, by the status. Done: their lines went out. Failed: a fault came, so perhaps not all of them. Refused: a
-- word is no code, and the first is told.
abbrev pub ToldCodes : List (List ℕ) → Status → Option (List ℕ) → Option (List ℕ) → Option (List ℕ) → Option (List ℕ) → Type 0
ToldCodes words Done old new told_old told_new = (first_unknown words ≡ None) × Appends old new (lines_of words)
ToldCodes words Failed old new told_old told_new = (first_unknown words ≡ None) × WrotePart (lines_of words) old new
ToldCodes words Refused old new told_old told_new =
    (word : List ℕ) × (first_unknown words ≡ Some word) × Keeps old new × WrotePart (no_code_line word) told_old told_new

-- what is written of an outcome, and whether the plan was finished
abbrev pub report_of : Bool → State → List ℕ × Bool
report_of finished outcome = (report_text outcome ++ end_line finished, finished)

-- The same of what a run came to. The run of a plan that can't be run was not started.
abbrev pub output_of : Result State WorkFault → Result (List ℕ × Bool) ServeFault
output_of (Ok outcome) = Ok (report_of true outcome)
output_of (Err (faults.Unfinished outcome)) = Ok (report_of false outcome)
output_of (Err (faults.Memory outcome)) = Err Memory
output_of (Err faults.Start) = Err Start
output_of (Err faults.Plan) = Err Start
