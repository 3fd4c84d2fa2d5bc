use Rattle.std.proofs.Common.{refl}
use Rattle.mv_workers.proofs.PlanLemmas.{judged_ok, judged_err}
use Rattle.mv_workers.proofs.run.run_workers.Goals as goal

-- the ends that came back are those of the crew still
pub gather-outcome-requires : goal.gather-outcome-requires
gather-outcome-requires g c =
    let crew = c.in-Ok-of.crew.ends in
    let back = c.in-Some.back in
    let is_back = c.in-Some.ensures.1 in
    c.ends_stay_ends.ensures crew.0 back.hub crew.1.items back.repos.items is_back.hub_is.same is_back.repos c.in-Ok-of.ensures.ends

-- the outcome keeps the plan, and is complete
pub returns-then-back-is_carried-clause-complete : goal.returns-then-back-is_carried-clause-complete
returns-then-back-is_carried-clause-complete g c =
    judged_ok c.args.plan c.args.turns c.in-Ok-of.crew c.in-Some.back c.in-Ok-of.ensures (rw c.in-Ok.ensures at c.in-Some.ensures.1) c.gather-outcome.result c.gather-outcome.ensures.outcome
    (c.if-not-is_sound.ensures.0 refl) c.gather-outcome.ensures.lawful c.gather-outcome.ensures.few c.is_carried.result c.is_carried.ensures c.if-back-is_carried.true

-- or is not complete
pub returns-then-back-clause-fault : goal.returns-then-back-clause-fault
returns-then-back-clause-fault g c =
    judged_err c.args.plan c.args.turns c.in-Ok-of.crew c.in-Some.back c.in-Ok-of.ensures (rw c.in-Ok.ensures at c.in-Some.ensures.1) c.gather-outcome.result c.gather-outcome.ensures.outcome
    (c.if-not-is_sound.ensures.0 refl) c.gather-outcome.ensures.lawful c.gather-outcome.ensures.few c.is_carried.result c.is_carried.ensures c.if-back-is_carried.false

pub returns-clause-fault : goal.returns-clause-fault
returns-clause-fault g c =
    judged_err c.args.plan c.args.turns c.in-Ok-of.crew c.in-Some.back c.in-Ok-of.ensures (rw c.in-Ok.ensures at c.in-Some.ensures.1) c.gather-outcome.result c.gather-outcome.ensures.outcome
    (c.if-not-is_sound.ensures.0 refl) c.gather-outcome.ensures.lawful c.gather-outcome.ensures.few c.is_carried.result c.is_carried.ensures c.if-back-is_carried.false
