use Rattle.mv_workers.proofs.Words.{arith, refl, rules, cases_lt, ap, length}
use Rattle.mv_workers.proofs.complete.is_carried.Goals as goal

-- one more party's messages were carried
pub loop-party-preserved : goal.loop-party-preserved
loop-party-preserved c = search (rules, cases_lt)

-- all parties were looked at
pub returns : goal.returns
returns c = (λ told party below. c.loop-party.invariant party (omega (arith, below, c.len-party-end.ensures.value, ap length c.parties.ensures)), λ all. refl)
