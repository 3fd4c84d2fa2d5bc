use Rattle.mv_hub.proofs.Words.{arith}
use Rattle.mv_hub.proofs.HubLemmas.{row-same, rooms, next-gain, kept-routed, kept_reserved}
use Rattle.mv_hub.proofs.hub.Hub.route.Goals as goal

-- no link is busy, so each has room
pub put_gains-requires-clause-room : goal.put_gains-requires-clause-room
put_gains-requires-clause-room c = λ to lt.
    let routing = c.in_ok-routing.routing in
    let same = next-gain c.args.self.now routing to c.in_ok-routing.ensures.routing in
    grind (arith, same, rooms c.self.invariant routing.from routing.message.now)

-- all that is kept follows from the longer record
pub invariant_of-self-2 : goal.invariant_of-self-2
invariant_of-self-2 c =
    let routing = c.in_ok-routing.routing in
    let known = rw (← c.self.view_is) at c.in_ok-routing.ensures.routing in
    let gains = rw c.self.invariant.square.rows at c.put_gains.ensures in
    rw (c.in_ok-push.ensures.ok, c.in_ok-message.ensures, known.number, ← c.in_ok-routing.ensures.from, ← c.get.ensures, ← c.in_ok-routing.ensures.message)
    (kept-routed c.self.invariant c.put_gains.new.links c.put_sold.new.sold.entries routing.from routing.message.now known.party
    (rw (← c.self.view_is) at c.in_ok-routing.ensures.free) (row-same (λ to lt. next-gain _ routing to known) gains)
    (λ from k gtin party. grind (arith, c.put_sold.ensures from k gtin party, c.reserve_sold.ensures.same gtin party)))

-- and where it is not longer, from what was there
pub invariant_of-self : goal.invariant_of-self
invariant_of-self c = kept_reserved c.self.invariant _ c.reserve_sold.ensures.same

pub invariant_of-self-in_err-message : goal.invariant_of-self-in_err-message
invariant_of-self-in_err-message c = kept_reserved c.self.invariant _ c.reserve_sold.ensures.same

pub invariant_of-self-in_err-push : goal.invariant_of-self-in_err-push
invariant_of-self-in_err-push c = rw c.in_err-push.ensures.err (kept_reserved c.self.invariant _ c.reserve_sold.ensures.same)
