use Rattle.std.proofs.Common.{arith, rules}
use Rattle.mv_plan.proofs.Lemmas.{lists}
use Rattle.mv_plan.proofs.draft.Draft.add.Goals as goal

pub invariant_of-self : goal.invariant_of-self
invariant_of-self c = grind (arith, lists)

pub returns-in_err-push-clause-err : goal.returns-in_err-push-clause-err
returns-in_err-push-clause-err c = grind (arith, lists)

-- no answer is planned
pub invariant_of-self-2 : goal.invariant_of-self-2
invariant_of-self-2 c = search (rules, lists)

pub returns-clause-ok : goal.returns-clause-ok
returns-clause-ok c = grind (arith, lists)
