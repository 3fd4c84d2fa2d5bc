use Rattle.mv_lines.proofs.CanonLemmas.{messages_of_input, refusals_of_input}
use Rattle.mv_lines.proofs.checking.check.Goals as goal

-- the refusals went out
pub returns-clause-texts : goal.returns-clause-texts
returns-clause-texts g c = refusals_of_input _ _ _ _ c.in_ok-answer_lines.ensures.ok

-- and it is known whether each line is a message
pub returns-clause-all : goal.returns-clause-all
returns-clause-all g c = rw c.checker.view_is (messages_of_input _ _ _ _ c.in_ok-answer_lines.ensures.ok)
