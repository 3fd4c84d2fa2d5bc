use Rattle.mv_workers.proofs.Words.{ltb-true, rules, cases_lt}
use Rattle.mv_workers.proofs.WorkLemmas.{applied_by_count}
use Rattle.mv_workers.proofs.complete.has_applied.Goals as goal

-- as many items of one more party are in the log as are on its link
pub loop-from-preserved : goal.loop-from-preserved
loop-from-preserved c = search (rules, applied_by_count, cases_lt, ltb-true)
