-- The hub routed what is taken from the uplink.
use Rattle.mv_ends.proofs.Words.{◌≡◌, ◌+◌, length, rules, routed_count, with_item}
use Rattle.mv_ends.proofs.EndLemmas.{of_links_entered, route_refused, took_routed, within_routed}
use Rattle.mv_ends.proofs.hub_end.HubEnd.route.Goals as goal

pub invariant_of-self-in-Ok-clause-took : goal.invariant_of-self-in-Ok-clause-took
invariant_of-self-in-Ok-clause-took c =
    let hub = c.args.self.now.hub in
    let message = c.in_hand.result.now in
    let taken : c.take-message.new.self.taken ≡ with_item c.args.self.now.uplinks.taken c.args.from message =
    rw (c.take-message.ensures.takes, c.«open».ensures.nothing, c.is_empty.ensures.nothing, c.take-message.ensures.front message c.in_hand.ensures) in
    rw (taken, c.in-Ok.ensures.ok)
    (took_routed (length hub.parties) hub.entries c.args.from (routed_count hub.entries c.args.from + 1) message c.args.self.now.uplinks.taken (search rules) c.args.self.now.took)

pub invariant_of-self-in-Ok-clause-of_links : goal.invariant_of-self-in-Ok-clause-of_links
invariant_of-self-in-Ok-clause-of_links c = rw c.in-Ok.ensures.ok (of_links_entered c.args.self.now.hub _ c.args.self.now.wires.put c.args.self.now.of_links)

pub invariant_of-self-in-Ok-clause-square : goal.invariant_of-self-in-Ok-clause-square
invariant_of-self-in-Ok-clause-square c = rw c.in-Ok.ensures.ok c.args.self.now.square

pub returns-in-Err-clause-reply : goal.returns-in-Err-clause-reply
returns-in-Err-clause-reply c =
    rw c.from.ensures (route_refused c.args.self.now _ c.args.from c.message.result.now c.in-Err.fault (search rules) (search rules) (search rules)
    c.message.ensures c.in-Err.ensures.err)

pub invariant_of-self-in-Ok-clause-within : goal.invariant_of-self-in-Ok-clause-within
invariant_of-self-in-Ok-clause-within c =
    rw c.in-Ok.ensures.ok (within_routed c.args.self.now.limits.submissions c.args.self.now.hub c.args.from _ c.in_hand.result.now (search rules) c.args.self.now.within)
