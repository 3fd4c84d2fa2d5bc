use Rattle.mv_system.proofs.Words.{Allows, Meets, arith, outcome, Relay, Relayed, put}
use Rattle.mv_system.proofs.SystemLemmas.{Leaves, frame_pushed, left}
use Rattle.mv_system.proofs.world.World.relay.Goals as goal

relayed : (c : goal.After-drop) → let a = c.self.inside in
    Leaves c.args.self.now (Relay c.args.from c.args.to) (Relayed c.in_ok-frame.frame.number) a.limits c.relay.new.self a.sites.items (put a.wires c.args.from c.args.to c.push_back.new.self)
unfolding Allows Meets outcome
relayed c =
    let frame = c.in_ok-frame in
    let pushed = frame_pushed c.self.invariant.are_wires c.args.from c.args.to (grind arith) _ c.at_mut-wire.ensures.value frame.frame _
    c.push_back.ensures.items frame.ensures.frame (grind arith) in
    left (Relay c.args.from c.args.to) (Relayed frame.frame.number) c.self.view_is c.self.invariant
    (rw (frame.ensures.ok, pushed.1, frame.ensures.number) (grind (arith, frame.ensures.fault))) (rw frame.ensures.ok (record { square = pushed.0.square; each = pushed.0.each }))

pub invariant_of-self-2 : goal.invariant_of-self-2
invariant_of-self-2 c = (relayed c).1

pub returns : goal.returns
returns c = (relayed c).0
