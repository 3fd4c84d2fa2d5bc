use Rattle.mv_json.proofs.Words.{append-nil, []}
use Rattle.mv_json.proofs.part_reading.take_list.Goals as goal

pub returns-clause-list : goal.returns-clause-list
returns-clause-list g c = rw append-nil at (c.loop-list.invariant.list [] _ (rw c.in_default-2.is at c.in_ok-text.ensures))
