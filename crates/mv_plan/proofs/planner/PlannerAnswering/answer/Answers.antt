use Rattle.std.proofs.Common.{append-nil, rules}
use Rattle.mv_plan.proofs.planner.PlannerAnswering.answer.Goals as goal

-- nothing is replied
pub returns-then-is_some-clause-ok : goal.returns-then-is_some-clause-ok
returns-then-is_some-clause-ok c = search (rules, append-nil)

pub returns-clause-ok : goal.returns-clause-ok
returns-clause-ok c = search (rules, append-nil)
