use Rattle.mv_system.proofs.Words.{Allows, Meets, arith, outcome, Lose, Lost, put}
use Rattle.mv_system.proofs.SystemLemmas.{Leaves, front_dropped, left}
use Rattle.mv_system.proofs.world.World.lose.Goals as goal

lost : (c : goal.After-drop) → let a = c.self.inside in
    Leaves c.args.self.now (Lose c.args.from c.args.to) (Lost c.in-Some.number) a.limits a.hub a.sites.items (put a.wires c.args.from c.args.to c.pop_front.new.self)
unfolding Allows Meets outcome
lost c =
    let dropped = front_dropped c.self.invariant.are_wires c.args.from c.args.to (grind arith) _ c.at_mut-wire.ensures.value _ c.pop_front.ensures.items in
    left (Lose c.args.from c.args.to) (Lost c.in-Some.number) c.self.view_is c.self.invariant (rw dropped.1 (grind (arith, c.frame_number.ensures))) dropped.0

pub invariant_of-self : goal.invariant_of-self
invariant_of-self c = (lost c).1

pub returns-in-Some : goal.returns-in-Some
returns-in-Some c = (lost c).0
