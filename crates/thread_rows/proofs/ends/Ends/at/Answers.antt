use Rattle.std.proofs.Common.{arith}
use Rattle.thread_rows.proofs.StayLemmas.{stay_with_repo}
use Rattle.thread_rows.proofs.ends.Ends.at.Goals as goal

pub invariant_of-self : goal.invariant_of-self
invariant_of-self g c =
    let e = c.self.inside in
    rw (c.in-Ok.ensures.items, c.remove.ensures.items) (stay_with_repo e.hub e.repos.items c.args.party c.remove.result c.call-end.result.0 c.self.invariant (omega arith) c.remove.ensures.value c.call-end.ensures)
