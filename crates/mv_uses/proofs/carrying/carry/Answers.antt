use Rattle.std.proofs.Common.{ℕ, subst}
use Rattle.mv_ends.specs.HubEnd.{Relays}
use Rattle.mv_uses.proofs.carrying.carry.Goals as goal

pub returns-clause-replies : goal.returns-clause-replies
returns-clause-replies c =
    let P : ℕ → Type 0 = λ to. Relays c.args.from to c.route-routed.new.self c.relay-relayed.new.self c.relay-relayed.result in
    (c.route-routed.new.self, c.route-routed.ensures.reply, subst P c.party.ensures c.relay-relayed.ensures.reply, c.apply.ensures.reply)
