use Rattle.mv_system.proofs.Words.{Allows, Meets, arith, outcome, Repeat, Repeated, put}
use Rattle.mv_system.proofs.SystemLemmas.{Leaves, frame_pushed, left}
use Rattle.mv_system.proofs.world.World.repeat.Goals as goal

repeated : (c : goal.After-drop) → let a = c.self.inside in
    Leaves c.args.self.now (Repeat c.args.from c.args.to c.args.number) (Repeated c.args.number) a.limits a.hub a.sites.items (put a.wires c.args.from c.args.to c.push_back.new.self)
unfolding Allows Meets outcome
repeated c =
    let frame = c.in_ok-frame in
    let pushed = frame_pushed c.self.invariant.are_wires c.args.from c.args.to (grind arith) _ c.at_mut-wire.ensures.value frame.frame _
    c.push_back.ensures.items frame.ensures.frame (grind arith) in
    left (Repeat c.args.from c.args.to c.args.number) (Repeated c.args.number) c.self.view_is c.self.invariant
    (rw (pushed.1, frame.ensures.number) (grind (arith, frame.ensures.fault))) pushed.0

pub invariant_of-self : goal.invariant_of-self
invariant_of-self c = (repeated c).1

pub returns : goal.returns
returns c = (repeated c).0
