use Rattle.std.proofs.Common.{◌∙◌, sym, ap, Some, option_copied}
use Rattle.mv_hub.specs.Hub.{HubState}
use Rattle.mv_show.proofs.TrailLemmas.{route_tells}
use Rattle.mv_show.proofs.event.Teller.tell_route.Goals as goal

-- the last entry of the record is that of the routing
pub returns : goal.returns
returns c =
    let entry = c.in-Some-Routed in
    let same = c.record-record.ensures ∙ ap (λ (hub : HubState). hub.entries) c.hub.ensures.value in
    rw c.in-Routed.is (route_tells c.say.result _ _ _ c.in-Routed.reach c.args.self.now.world.now.hub.entries entry.from entry.k entry.message c.get.result.now
    (sym (rw same at c.last.ensures.value) ∙ ap option_copied entry.is ∙ ap (λ e. Some e) entry.field-0-is)
    c.get.ensures
    (rw same at c.say.ensures))
