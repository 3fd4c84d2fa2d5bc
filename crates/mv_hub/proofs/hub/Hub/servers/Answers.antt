use Rattle.mv_hub.proofs.Words.{arith}
use Rattle.mv_hub.proofs.hub.Hub.servers.Goals as goal

pub returns-in-Some : goal.returns-in-Some
returns-in-Some c party = grind (arith, c.self.view_is, c.self.invariant.sells c.args.gtin.now party, c.in-Some.ensures.value)

pub returns-in-None : goal.returns-in-None
returns-in-None c party = grind (arith, c.self.view_is, c.self.invariant.sells c.args.gtin.now party, c.in-None.ensures.value, c.none.ensures party)
