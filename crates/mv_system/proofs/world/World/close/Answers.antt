use Rattle.mv_system.proofs.Words.{◌≡◌, ◌<◌, length, true, arith, nat_tests, closed, is_open}
use Rattle.mv_system.proofs.SystemLemmas.{changed, wires_entered}
use Rattle.mv_system.proofs.world.World.close.Goals as goal

pub invariant_of-self-2 : goal.invariant_of-self-2
invariant_of-self-2 c =
    let told : (c.args.from < length c.self.inside.hub.parties) × (c.args.to < length c.self.inside.hub.parties)
    × (is_open c.self.inside.hub.entries c.args.from c.args.to ≡ true) = grind (arith, nat_tests, c.in_ok-close.ensures.fault) in
    rw c.in_ok-close.ensures.ok (changed (closed c.args.from c.args.to told.0 told.1 told.2) c.self.invariant (wires_entered _ c.self.invariant.are_wires))
