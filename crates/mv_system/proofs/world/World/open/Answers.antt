use Rattle.mv_system.proofs.Words.{◌≡◌, IsSystem, opening, state_of}
use Rattle.mv_system.proofs.SystemLemmas.{opened}
use Rattle.mv_system.proofs.world.World.open.Goals as goal

opens : (c : goal.In_ok-hub) → let st = state_of c.args.limits c.in_ok-hub.hub c.in_ok-sites.sites.items c.in_ok-wires.wires in
    (st ≡ opening c.args.parties c.args.limits) × IsSystem st c.in_ok-wires.wires
opens c =
    let count = c.len-count.ensures in
    rw (c.in_ok-hub.ensures, c.window.ensures.value, c.in_ok-sites.ensures, count.value, c.submissions.ensures.value)
    (opened c.args.parties c.args.limits c.in_ok-wires.wires count.few c.wire-size.ensures.bounds (rw count.value at c.in_ok-wires.ensures.square)
    (rw c.wire-size.ensures.value at c.in_ok-wires.ensures.each))

pub invariant_of-result : goal.invariant_of-result
invariant_of-result c = (opens c).1

pub returns : goal.returns
returns c = (opens c).0
