-- No block stands behind the last.
use Rattle.mv_repository.proofs.Words.{rules, append-nil, arith, common_steps}
use Rattle.mv_repository.proofs.blocks.extend.Goals as goal

pub returns-then-is_err-clause-blocks : goal.returns-then-is_err-clause-blocks
returns-then-is_err-clause-blocks c all front = search (rules, append-nil c.loop-rest.blocks.items)

pub returns-clause-blocks : goal.returns-clause-blocks
returns-clause-blocks c all front = search (rules, append-nil c.loop-rest.blocks.items)

pub loop-rest-preserved : goal.loop-rest-preserved
loop-rest-preserved c = grind (arith, common_steps)
