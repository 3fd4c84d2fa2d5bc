use Rattle.std.proofs.Common.{arith}
use Rattle.mv_words.proofs.AskLemmas.{fails_by}
use Rattle.mv_words.proofs.task.task_of.Goals as goal

-- the command line is built as it is defined, so it takes what asks for a task
pub returns-in_err-matches-clause-task : goal.returns-in_err-matches-clause-task
returns-in_err-matches-clause-task c asked asks =
    grind (arith, fails_by _ _ _ c.in_ok-command_line.ensures c.try_get_matches_from.ensures.kinds, asks.0)

pub returns-clause-taken : goal.returns-clause-taken
returns-clause-taken c = rw c.in_ok-matches.was at (fails_by _ _ _ c.in_ok-command_line.ensures c.try_get_matches_from.ensures.kinds)
