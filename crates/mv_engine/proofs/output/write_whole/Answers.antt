use Rattle.mv_engine.proofs.OutputLemmas.{front_is_part, wrote_more}
use Rattle.mv_engine.proofs.output.write_whole.Goals as goal

-- a write that took nothing
pub returns-in-Ok-eq0-clause-err : goal.returns-in-Ok-eq0-clause-err
returns-in-Ok-eq0-clause-err g c =
    front_is_part _ _ _ _ (wrote_more _ _ _ _ _ _ c.loop-done.invariant.1 c.in-Ok-eq0.ensures.bytes)
