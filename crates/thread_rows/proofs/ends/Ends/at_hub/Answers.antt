use Rattle.thread_rows.proofs.StayLemmas.{stay_with_hub}
use Rattle.thread_rows.proofs.ends.Ends.at_hub.Goals as goal

pub invariant_of-self : goal.invariant_of-self
invariant_of-self g c =
    let e = c.self.inside in
    stay_with_hub e.hub c.call_hub.new.end e.repos.items c.self.invariant c.call_hub.ensures
