use Rattle.mv_workers.proofs.Words.{IsFurther}
use Rattle.mv_workers.proofs.desk.Desk.turn.Given as goal

abbrev pub invariant-loop-from : goal.invariant-loop-from
invariant-loop-from g l = IsFurther 1 l.fn.self l.self
