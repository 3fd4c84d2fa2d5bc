-- A run of steps in which the lines that were not taken are counted.
use Rattle.std.specs.Prelude.{◌≡◌, ◌+◌, ◌-◌, ◌^◌, ℕ, List, min, if◌then◌else◌, Option, Some, None}
use Rattle.serde_json.specs.Written.{compact_text}
use Rattle.mv_format.specs.declared.answered.Answered.{Answered}
use Rattle.mv_engine.specs.Lines.{Line}
use Rattle.mv_format.specs.ReplyLines.{answer_value, is_refused}
use Rattle.mv_lines.specs.Sessions.{Open, IsTaken}
use Rattle.mv_lines.specs.declared.strict.Untaken.{Untaken}

-- what is open, and the lines so far that were not taken
abbrev pub Strict : Type 0
Strict = Open × Option Untaken

-- the lines that were not taken, with one more, of this number; no run has 2 ^ 32 lines
abbrev pub tallied : ℕ → Option Untaken → Untaken
tallied number None = record { count = 1; first = number }
tallied number (Some untaken) = record { count = min (untaken.count + 1) (2 ^ 32 - 1); first = untaken.first }

-- the reply to a line is the text of what came of it, and the line is counted where it was not taken
abbrev pub IsStrictReply : Strict → Line → Option (List ℕ) → Strict → Type 0
IsStrictReply before line text after = (answered : Answered) × IsTaken before.0 line.bytes answered after.0
    × (text ≡ Some (compact_text (answer_value answered)))
    × (after.1 ≡ (if is_refused answered then Some (tallied line.number before.1) else before.1))
