use Rattle.mv_system.proofs.Words.{arith, refl, Query}
use Rattle.mv_system.proofs.SystemLemmas.{site_back, submitted_kept}
use Rattle.mv_system.proofs.world.World.take_query.Goals as goal

pub invariant_of-self-2 : goal.invariant_of-self-2
invariant_of-self-2 c =
    submitted_kept _ (Query c.args.key.now) _ _ _ c.self.invariant c.self.view_is (rw c.is_party.ensures at c.if-not-is_party.false)
    c.is_uplink_full-uplink_full.ensures c.index_mut-site.ensures.value c.in_ok-q.ensures.ok refl c.in_ok-q.ensures.fault

pub invariant_of-self : goal.invariant_of-self
invariant_of-self c = grind (arith, site_back)
