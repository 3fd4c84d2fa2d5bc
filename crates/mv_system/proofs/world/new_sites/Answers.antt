use Rattle.mv_system.proofs.Words.{ℕ, sym, arith, map-range_with_len_more, new_site}
use Rattle.mv_system.proofs.world.new_sites.Goals as goal

pub loop-party-preserved : goal.loop-party-preserved
loop-party-preserved c =
    let make = λ (party : ℕ). new_site party c.args.parties c.args.limit in
    rw (c.in_ok-push.ensures.items, c.loop-party.invariant, c.in_ok-new.ensures) (sym (map-range_with_len_more make 0 c.loop-party.party c.loop-party.party (omega arith)))
