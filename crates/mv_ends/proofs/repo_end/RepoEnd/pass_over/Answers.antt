-- The party takes the frame in hand, and nothing else changes.
use Rattle.mv_ends.proofs.Words.{rules}
use Rattle.mv_ends.proofs.SiteEndLemmas.{accepted_taken, passed}
use Rattle.mv_ends.proofs.repo_end.RepoEnd.pass_over.Goals as goal

pub invariant_of-self-clause-accepted : goal.invariant_of-self-clause-accepted
invariant_of-self-clause-accepted c =
    let site = c.args.self.now.site in
    let frame = c.take-passed.result in
    let is = c.requires.front frame c.take-passed.ensures.first in
    rw c.take-passed.ensures.takes
    (rw ((passed site c.args.from frame.item _ is.other).0) at (accepted_taken site c.args.from frame c.args.self.now.inlets.taken (search rules) c.args.self.now.accepted))
