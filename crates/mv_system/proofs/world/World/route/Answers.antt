use Rattle.mv_system.proofs.Words.{arith, length, ltb-true, next_entry, routed}
use Rattle.mv_system.proofs.SystemLemmas.{changed, entries-short, site_read, wires_entered}
use Rattle.mv_system.proofs.world.World.route.Goals as goal

pub route-requires : goal.route-requires
route-requires c = entries-short c.self.invariant

pub invariant_of-self-2 : goal.invariant_of-self-2
invariant_of-self-2 c =
    let hub = c.self.inside.hub in
    let from = c.args.from in
    let message = c.in-Some.message.now in
    let site = c.index-site.result.now in
    let party = rw (c.is_party.ensures, ← c.self.view_is) at c.if-not-is_party.false in
    let here = site_read from site c.self.invariant party c.index-site.ensures in
    rw c.in_ok-k.ensures.ok (changed (routed from message (ltb-true from (length hub.parties) party)
    (grind (arith, here, c.routed_count-place.ensures.value, c.submission.ensures, c.in-Some.is)) c.in_ok-k.ensures.fault) c.self.invariant
    (wires_entered (next_entry hub from message) c.self.invariant.are_wires))
