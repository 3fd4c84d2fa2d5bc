-- What is written to a line: the text of its event, or nothing.
use Rattle.std.specs.Prelude.{◌≡◌, ℕ, List, [], ◌++◌, Bool, true, is_some, Option, Some, None, Result, MatchResult}
use Rattle.mv_show.specs.Words.{Data, compact_text}
use Rattle.mv_show.specs.Events.{Event}
use Rattle.mv_show.specs.Trail.{event_text}

-- the text of an event, where there is one
abbrev pub text_or_none : ℕ → Option Event → List ℕ
text_or_none line None = []
text_or_none line (Some event) = event_text line event

-- the text of a value came after these bytes, and it was said that there is one; or memory was refused, and they are as they were
abbrev pub Says : {E : Type 0} → Result Bool E → List ℕ → List ℕ → Data → Type 0
Says result old new value = MatchResult result (λ spoken. (spoken ≡ true) × (new ≡ old ++ compact_text value)) (λ _. new ≡ old)

-- the event's text came after these bytes, and it was said whether there is one; or memory was refused, and they are as they were
abbrev pub Tells : {E : Type 0} → Result Bool E → List ℕ → List ℕ → ℕ → Option Event → Type 0
Tells result old new line event =
    MatchResult result (λ spoken. (spoken ≡ is_some event) × (new ≡ old ++ text_or_none line event)) (λ _. new ≡ old)
