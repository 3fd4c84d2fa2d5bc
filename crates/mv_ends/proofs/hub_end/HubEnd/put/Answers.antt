use Rattle.mv_ends.proofs.EndLemmas.{of_links_put}
use Rattle.mv_ends.proofs.hub_end.HubEnd.put.Goals as goal

pub invariant_of-self-clause-of_links : goal.invariant_of-self-clause-of_links
invariant_of-self-clause-of_links c =
    rw c.put.ensures.puts (of_links_put c.args.self.now.hub c.args.self.now.wires.put c.args.from c.args.to c.args.frame c.requires.member c.args.self.now.of_links)
