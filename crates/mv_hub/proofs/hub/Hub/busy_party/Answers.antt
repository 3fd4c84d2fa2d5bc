use Rattle.mv_hub.proofs.Words.{arith, cases_eq}
use Rattle.mv_hub.proofs.HubLemmas.{busy_among}
use Rattle.mv_hub.proofs.hub.Hub.busy_party.Goals as goal

pub loop-to-init : goal.loop-to-init
loop-to-init c =
    let routing = c.args.routing.now in
    let known = rw (← c.self.view_is) at c.requires in
    let own = c.self.invariant.opens routing.from routing.from c.index.result.now known.party known.party in
    rw (← c.self.view_is) (busy_among c.self.invariant routing.from routing.message.now c.or-gaining.result known.party
    (λ to. grind (arith, cases_eq to routing.from, c.or-gaining.ensures to, c.and-own.ensures to, c.with.ensures to, c.none.ensures to, known.reaches to, own)))
