-- A withdrawal is in the table exactly where one stands in the log.
use Rattle.mv_repository.proofs.Lemmas.{arith, common_steps, found-any}
use Rattle.mv_repository.proofs.repository.Repository.withdrawn.Goals as goal

pub returns : goal.returns
returns c = grind (arith, common_steps, found-any, c.self.invariant.0.stops.withdrawals.found c.args.gtin.now)
