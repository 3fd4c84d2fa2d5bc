use Rattle.mv_hub.proofs.Words.{arith, nat_tests}
use Rattle.mv_hub.proofs.HubLemmas.{kept_closed}
use Rattle.mv_hub.proofs.hub.Hub.close.Goals as goal

-- the link is closed, and all else is as it was
pub invariant_of-self-2 : goal.invariant_of-self-2
invariant_of-self-2 c = grind (arith, nat_tests, kept_closed c.self.invariant c.args.from c.args.to c.index.result.now c.without.result)
