use Rattle.std.proofs.Common.{rules}
use Rattle.mv_lines.proofs.StrictLemmas.{counted_unanswered}
use Rattle.mv_lines.proofs.strict.CountedAnswering.answer.Goals as goal

-- the line was taken and counted, and there is no memory for its reply
pub returns-clause-left : goal.returns-clause-left
returns-clause-left c =
    counted_unanswered c.and.result c.args.self.now _ _ c.in_ok-answered.answered (search rules) (search rules)
