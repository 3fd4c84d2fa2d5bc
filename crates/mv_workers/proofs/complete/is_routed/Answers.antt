use Rattle.std.proofs.Common.{ltb-true, rules}
use Rattle.mv_workers.proofs.WorkLemmas.{routed_by_count}
use Rattle.mv_workers.proofs.complete.is_routed.Goals as goal

pub returns : goal.returns
returns c = search (rules, ltb-true, routed_by_count)
