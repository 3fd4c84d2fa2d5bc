-- Which replies are allowed to steps, want of memory included, and what they leave.
use Rattle.std.specs.Prelude.{◌≡◌, List, [], ◌∷◌, IsTrue}
use Rattle.mv_machine.specs.Words.{Memory, Refused, Reply, Step}
use Rattle.mv_machine.specs.Replies.{takes_memory}
use Rattle.mv_machine.specs.State.{State}
use Rattle.mv_machine.specs.Steps.{outcome}

-- This reply and this state are those of an outcome; or, where what is done takes memory, the refusal for want of memory with
-- nothing changed.
unfoldable pub Meets : State → Reply × State → Reply → State → Type 0
Meets old expected (Refused Memory) new = (new ≡ old) × IsTrue (takes_memory expected.0)
Meets old expected reply new = (reply ≡ expected.0) × (new ≡ expected.1)

-- the step may get this reply and leave this state: those of its row, want of memory included
unfoldable pub Allows : State → Step → Reply → State → Type 0
Allows old step reply new = Meets old (outcome old step) reply new

-- the steps may get these replies, one after another, and leave this state
abbrev pub Runs : State → List Step → List Reply → State → Type 0
Runs old [] [] new = new ≡ old
Runs old (step ∷ steps) (reply ∷ replies) new = (between : State) × Allows old step reply between × Runs between steps replies new
Runs old steps replies new = ⊥
