-- What comes of the words that the command line takes.
use Rattle.std.specs.Prelude.{◌≡◌, ◌⊎◌, ℕ, List, Bool, true, false, IsTrue, Option, None, IfSome, is_none}
use Rattle.mv_tool.specs.Names.{Appends, Done, Failed, Keeps, Refused, ServeFault, Status, WrotePart, first_unknown, lines_of}
use Rattle.mv_lines.specs.Checks.{IsChecked}
use Rattle.mv_lines.specs.Strict.{IsStrictReply}
use Rattle.mv_lines.specs.Canon.{IsCanon}
use Rattle.mv_engine.specs.Replies.{ReplyRule}
use Rattle.mv_engine.specs.Served.{EndedBy, Served}
use Rattle.mv_lines.specs.Sessions.{IsReply}
use Rattle.mv_show.specs.Showing.{Shows, Unshown}
use Rattle.mv_show.specs.Trail.{IsEvent}
use Rattle.mv_words.specs.declared.task.Task.{Task}
use Rattle.mv_words.specs.declared.task.Task.TheVariants as tasks
use Rattle.mv_tool.specs.Telling.{untaken_line}
use Rattle.mv_tool.specs.Working.{Worked, Failed as WorkFailed}

-- the input, the output and standard error, each before a run and behind it
module _ (input rest old new told_old told_new : Option (List ℕ)) where
  -- What a run came to that answers whether all is well, by its status. Done: it is. Failed: it is not, or a fault ended the run.
  -- Refused: nothing was read and nothing written.
  abbrev pub RanAs : (Bool → Type 0) → (ServeFault → Type 0) → Status → Type 0
  RanAs Answers Ends Done = Answers true
  RanAs Answers Ends Failed = Answers false ⊎ ((fault : ServeFault) × Ends fault)
  RanAs Answers Ends Refused = Keeps input rest × Keeps old new

  -- What a run over lines came to: the whole input was answered, and the state that is left says whether all is well; or a fault
  -- ended it.
  abbrev pub RanLines : {S : Type 0} → ReplyRule S → S → (S → Bool → Type 0) → Status → Type 0
  RanLines {S = S} rule before Says =
      RanAs (λ well. (after : S) × Says after well × IfSome input (λ bytes. Served rule before bytes after old new))
      (λ fault. EndedBy rule fault before input rest old new)

  -- What came of what was asked for, by the status, with what was read, written and told.
  -- `steps`, `trail` and `canon`: all is well where the whole input was answered. `steps --strict`: where each line was taken; those that were
  -- not are told. `show`: where a system was opened. `canon --check`: where each line is a message. `work`: where the plan was finished. Of these three
  -- only a fault is told. `explain`: the words are codes, whose lines went out whole, or, by a fault, some first bytes of them.
  abbrev pub Ran : Task → Status → Type 0
  Ran tasks.Steps = RanLines IsReply None (λ after well. IsTrue well)
  Ran tasks.Trail = RanLines IsEvent None (λ after well. IsTrue well)
  Ran tasks.Canon = RanLines IsCanon tt (λ after well. IsTrue well)
  Ran tasks.Strict =
      RanLines IsStrictReply (None, None)
      (λ after well. (well ≡ is_none after.1) × IfSome after.1 (λ untaken. WrotePart (untaken_line untaken) told_old told_new))
  Ran tasks.Show = RanAs (λ is_open. Shows is_open input old new × Keeps told_old told_new) (λ fault. Unshown fault input rest old new)
  Ran tasks.Check = RanLines IsChecked true (λ after well. (well ≡ after) × Keeps told_old told_new)
  Ran (tasks.Work turns) =
      RanAs (λ finished. IfSome input (λ bytes. Worked turns bytes finished (Appends old new)) × Keeps told_old told_new)
      (λ fault. WorkFailed turns fault input rest old new)
  Ran (tasks.Explain words) =
      RanAs (λ well. IsTrue well × Keeps input rest × (first_unknown words ≡ None) × Appends old new (lines_of words))
      (λ fault. Keeps input rest × (first_unknown words ≡ None) × WrotePart (lines_of words) old new)
