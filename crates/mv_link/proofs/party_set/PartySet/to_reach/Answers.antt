use Rattle.std.proofs.Common.{ℕ, ◌∙◌, length, ap, arith, length-append, append-nil}
use Rattle.mv_link.proofs.PartySetLemmas.{few-in, increasing-in}
use Rattle.mv_link.proofs.party_set.PartySet.to_reach.Goals as goal

pub push-requires : goal.push-requires
push-requires c =
    (omega arith, omega (arith, ap length c.loop-party.invariant, length-append {A = ℕ}, few-in c.args.self, ap length c.in-Some.ensures.list))

pub new-requires : goal.new-requires
new-requires c =
    let all = rw (c.in_default.ensures.list.0, append-nil c.loop-party.found.items) at c.loop-party.invariant in
    rw all (increasing-in c.args.self)

pub returns : goal.returns
returns c = c.new.ensures ∙ rw (c.in_default.ensures.list.0, append-nil c.loop-party.found.items) at c.loop-party.invariant
