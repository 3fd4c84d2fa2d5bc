use Rattle.mv_ends.proofs.Words.{arith, rules}
use Rattle.mv_ends.proofs.OutcomeLemmas.{gathering_more, outcome_of}
use Rattle.mv_ends.proofs.outcome.gather.Goals as goal

pub loop-party-preserved : goal.loop-party-preserved
loop-party-preserved c =
    let look = c.look_beside.ensures in
    let was = c.loop-party.invariant.1 in (
      search rules,
      gathering_more _ c.loop-party.hub c.look_beside.new.self c.loop-party.repos.items c.loop-party.party
          c.index_mut.result.now c.look_beside.new.repo
          was (omega (arith, was.ends.each)) c.index_mut.ensures.value look.same look.hub look.repo look.unchanged look.lawful look.few,
    )

pub invariant_of-outcome : goal.invariant_of-outcome
invariant_of-outcome c =
    outcome_of _ c.loop-party.hub c.loop-party.repos.items c.loop-party.party c.loop-party.invariant.1 (omega arith) (search rules)
