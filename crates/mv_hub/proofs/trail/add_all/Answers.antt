use Rattle.std.proofs.lemmas.List.{take_more}
use Rattle.mv_hub.proofs.TrailLemmas.{gathers_more}
use Rattle.mv_hub.proofs.trail.add_all.Goals as goal

pub loop-batch-preserved : goal.loop-batch-preserved
loop-batch-preserved c =
    let item = c.batch-item.result in
    let front = take_more c.args.batches.now c.loop-batch.batch-index item c.loop-batch-test.true in
    rw (front, ← c.batch-item.is, c.in_ok-insert.ensures.keys, c.copy.ensures)
    (gathers_more _ _ _ item c.loop-batch.invariant)
