-- What a run that shows has read and written.
use Rattle.std.specs.Prelude.{◌≡◌, ℕ, List, [], ◌⊎◌, Bool, is_some, Option, None, IfSome}
use Rattle.mv_show.specs.Words.{Appends, Consumes, ServeFault, Write, Memory, Open, IsTaken}
use Rattle.mv_format.specs.declared.answered.Answered.{Answered}
use Rattle.mv_engine.specs.Lines.{Line, pieces}
use Rattle.mv_engine.specs.Output.{WrotePart}
use Rattle.mv_engine.specs.Served.{AreAnswered, Ended}
use Rattle.mv_show.specs.Shown.{lines_text, shown_rows}

-- the line is taken as `steps` takes it, and nothing is written to it
abbrev pub IsPassed : Open → Line → Option (List ℕ) → Open → Type 0
IsPassed before line text after = (text ≡ None) × (answered : Answered) × IsTaken before line.bytes answered after

-- the input was taken whole: all its lines, which keep the limits, were taken so; and the fact holds of what is open then
abbrev pub TakenWhole : Option (List ℕ) → (Open → Type 0) → Type 0
TakenWhole input Fact = (after : Open) × IfSome input (λ bytes. AreAnswered IsPassed 0 None (pieces bytes) after []) × Fact after

-- the input was not taken whole, and nothing went out, since nothing is written to a line
abbrev pub NotShown : ServeFault → Option (List ℕ) → Option (List ℕ) → Option (List ℕ) → Option (List ℕ) → Type 0
NotShown fault input rest old new =
    (bytes : List ℕ) × Consumes input rest bytes × Ended IsPassed fault None bytes rest old new × Appends old new []

-- the input was taken whole, and all that stands then went out; whether a system is open
abbrev pub Shows : Bool → Option (List ℕ) → Option (List ℕ) → Option (List ℕ) → Type 0
Shows is_open input old new = TakenWhole input (λ after. (is_open ≡ is_some after) × Appends old new (lines_text (shown_rows after)))

-- the input was taken whole, and some first bytes of what stands then went out
abbrev pub ShownInPart : Option (List ℕ) → Option (List ℕ) → Option (List ℕ) → Type 0
ShownInPart input old new = TakenWhole input (λ after. WrotePart (lines_text (shown_rows after)) old new)

-- What a run that ended by a fault has written. Where a read failed, a line or a byte came that may not, or memory was refused, also once
-- the input was taken: nothing. Where a write failed: the first bytes of what stands.
abbrev pub Unshown : ServeFault → Option (List ℕ) → Option (List ℕ) → Option (List ℕ) → Option (List ℕ) → Type 0
Unshown Write input rest old new = ShownInPart input old new
Unshown Memory input rest old new = NotShown Memory input rest old new ⊎ TakenWhole input (λ after. Appends old new [])
Unshown fault input rest old new = NotShown fault input rest old new
