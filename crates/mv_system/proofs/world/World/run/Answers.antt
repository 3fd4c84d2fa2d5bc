use Rattle.mv_system.proofs.Words.{arith, headline_further, runs-push, take_more}
use Rattle.mv_system.proofs.world.World.run.Goals as goal

-- One more step was taken, and one more reply noted.
pub loop-step-preserved : goal.loop-step-preserved
loop-step-preserved c =
    let k = c.loop-step.invariant in
    record {
      ran = rw (take_more c.args.steps.now c.loop-step.step-index c.step-item.result c.loop-step-test.true, ← c.step-item.is, c.push_reserved.ensures.items)
          (runs-push _ _ c.loop-step.replies.items c.loop-step.self c.step-item.result _ _ k.ran c.step-reply.ensures.allowed);
      headline = headline_further _ c.loop-step.self _ k.headline c.step-reply.ensures.headline;
      room = grind arith;
      count = grind arith;
    }
