use Rattle.mv_system.proofs.Words.{arith, no_answer, submit-free}
use Rattle.mv_system.proofs.SystemLemmas.{site_back, submitted_kept}
use Rattle.mv_system.proofs.world.World.submit.Goals as goal

pub invariant_of-self-2 : goal.invariant_of-self-2
invariant_of-self-2 c =
    let free = submit-free c.is_uplink_full-uplink_full.result c.index_mut-site.result.now c.args.message.now c.in_ok-k.ensures.fault in
    submitted_kept _ _ _ _ _ c.self.invariant c.self.view_is (rw c.is_party.ensures at c.if-not-is_party.false)
    c.is_uplink_full-uplink_full.ensures c.index_mut-site.ensures.value c.in_ok-k.ensures.ok (no_answer _ free.0) free.1

pub invariant_of-self : goal.invariant_of-self
invariant_of-self c = grind (arith, site_back)
