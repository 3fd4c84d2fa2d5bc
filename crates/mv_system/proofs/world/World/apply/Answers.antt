use Rattle.mv_system.proofs.Words.{Allows, Apply, Meets, and_parts, ap, arith, option_copied, outcome, put, set, set-get_or, sym, ◌∙◌}
use Rattle.mv_system.proofs.SystemLemmas.{wires_at, number_of_frame, Leaves, front_dropped, front_is, left, site_back, site_read}
use Rattle.std.proofs.lemmas.Grind.{elements}
use Rattle.mv_system.proofs.world.World.apply.Goals as goal

taken : (c : goal.After-of_taken) → let a = c.self.inside in
    Leaves c.args.self.now (Apply c.args.from c.args.to) c.of_taken.result
    a.limits a.hub (set a.sites.items c.args.to c.apply.new.self) (put a.wires c.args.from c.args.to c.pop_front.new.self)
unfolding Allows Meets outcome
taken c =
    let from = c.args.from in
    let to = c.args.to in
    let wires = c.self.invariant.are_wires in
    let both = rw (c.are_parties.ensures, ← c.self.view_is) at c.if-not-are_parties.false in
    let here = site_read to c.index_mut-site.result.now c.self.invariant (and_parts _ _ both).1 c.index_mut-site.ensures.value in
    let front = front_is wires from to both _ c.at.ensures _ (sym c.front.ensures ∙ ap option_copied c.in-Some.is) in
    let dropped = front_dropped wires from to both _ c.at_mut-under_way.ensures.value _ c.pop_front.ensures.items in
    let full = rw (← c.self.view_is) at c.is_uplink_full-uplink_full.ensures in
    left (Apply from to) c.of_taken.result c.self.view_is c.self.invariant
    (rw (c.of_taken.ensures, c.in_ok-taken.ensures.value, c.in_ok-taken.ensures.ok, dropped.1)
    (grind (arith, set-get_or, front, full, here, c.in_ok-taken.ensures.fault))) dropped.0

pub invariant_of-self-2 : goal.invariant_of-self-2
invariant_of-self-2 c = (taken c).1

pub returns : goal.returns
returns c = (taken c).0

pub returns-in_default : goal.returns-in_default
unfolding Allows Meets outcome
returns-in_default c = rw (← c.self.view_is) (grind (arith, elements, wires_at, number_of_frame))

pub returns-in_err-taken : goal.returns-in_err-taken
unfolding Allows Meets outcome
returns-in_err-taken c =
    let from = c.args.from in
    let to = c.args.to in
    let k = c.self.invariant in
    let site = c.index_mut-site.result.now in
    let both = rw (c.are_parties.ensures, ← c.self.view_is) at c.if-not-are_parties.false in
    let here = site_read to site k (and_parts _ _ both).1 c.index_mut-site.ensures.value in
    let front = front_is k.are_wires from to both _ c.at.ensures _ (sym c.front.ensures ∙ ap option_copied c.in-Some.is) in
    let full = rw (← c.self.view_is) at c.is_uplink_full-uplink_full.ensures in
    rw (← c.self.view_is, c.in_err-taken.ensures.err, site_back c.self.inside.sites.items to site c.index_mut-site.ensures.value)
    (grind (arith, front, full, here, c.in_err-taken.ensures.fault, c.in_err-taken.ensures.memory))

pub invariant_of-self : goal.invariant_of-self
invariant_of-self c = grind (arith, site_back)
