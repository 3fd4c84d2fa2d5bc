use Rattle.mv_hub.proofs.Words.{arith, common_steps, nat_tests}
use Rattle.mv_hub.proofs.PartiesLemmas.{server_is_party}
use Rattle.mv_hub.proofs.parties.Parties.servers.Goals as goal

-- who was found is one of the parties
pub with-found-requires : goal.with-found-requires
with-found-requires c =
    grind (arith, nat_tests, common_steps, server_is_party, c.party_of.ensures c.self.inside.lists.items c.in-Some.party c.self.invariant.2)
