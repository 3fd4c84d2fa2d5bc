use Rattle.mv_hub.proofs.Words.{same_from_push, replicate_more, append-nil, refl, [], receipt_to, length, append_assoc, arith, replicate, new_sending, parties_in}
use Rattle.mv_hub.proofs.HubLemmas.{row-none, row-push, row-same}
use Rattle.mv_hub.proofs.hub.routing.put_gains.Goals as goal
use Rattle.mv_hub.proofs.hub.routing.put_gains.Goals.{then-routing, else-routing}

pub loop-to-init : goal.loop-to-init
loop-to-init c = elim c.if-routing.branch [
  | then-routing w ↦
      let pushed = rw (← w.at_mut.ensures.value (new_sending 0), w.is_query.ensures, w.of.ensures) at w.put_one.ensures in
      let row = row-push {h = receipt_to c.args.routing.now} (row-none {g = λ to. []} c.requires.square (λ to lt. refl)) c.requires.from c.requires.from pushed
      (λ to lt. grind (arith, w.if-routing)) in
      grind (arith, append-nil, w.links-is, row)
  | else-routing w ↦ grind (arith, append-nil, w.links-is, w.if-routing)
]

-- the least party of those that are left gets the message
pub loop-to-preserved : goal.loop-to-preserved
loop-to-preserved c =
    let routing = c.args.routing.now in
    let before = c.loop-to.invariant in
    let to = c.in-Some.to in
    let left = c.pop_first.new.self in
    let sets = c.in-Some.ensures.sets in
    let here = before.left to sets.1 in
    let popped = same_from_push c.pop.new.self.items (replicate (length (parties_in left)) routing.message.now) c.in-Some-pop.message routing.message.now
    (grind (arith, replicate_more, c.in-Some-pop.ensures.items, before.each, c.in-Some.ensures.list)) in
    let pushed = rw (popped.1, ← c.at_mut-in-Some.ensures.value (new_sending 0)) at c.put_one-in-Some.ensures in
    record {
      row = row-push before.row c.requires.from (c.requires.within to here) pushed
          (λ other lt. grind (arith, append_assoc, here, sets.1, sets.2 other));
      left = λ other. grind (arith, before.left other, sets.2 other);
      each = popped.0;
    }

-- no party is left
pub returns : goal.returns
returns c = grind (arith, row-same)
