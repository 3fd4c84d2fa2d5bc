-- What was written of what came of a line.
use Rattle.std.specs.Prelude.{◌≡◌, ◌++◌, ◌⊎◌, List, ℕ, Result, MatchResult}
use Rattle.serde_json.specs.Written.{compact_text}
use Rattle.mv_format.specs.ReplyLines.{answer_value}
use Rattle.mv_format.specs.declared.answered.Answered.{Answered}
use Rattle.mv_lines.specs.Sessions.{Open}

-- What may come of a line came and was written behind what the buffer held; or memory was refused before anything changed, or for what
-- was to be written.
abbrev pub IsSaid : {E : Type 0} → (Answered → Open → Type 0) → Open → List ℕ → Result (Unit {0}) E → List ℕ → Open → Type 0
IsSaid Comes before old result new after =
    MatchResult result
    (λ _. (answered : Answered) × Comes answered after × (new ≡ old ++ compact_text (answer_value answered)))
    (λ _. (new ≡ old) × ((after ≡ before) ⊎ ((answered : Answered) × Comes answered after)))
