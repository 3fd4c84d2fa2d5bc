use Rattle.mv_workers.proofs.turns.repo_turns.Given as goal
use Rattle.mv_workers.proofs.Words.{IsFurther}

abbrev pub invariant-loop-turn : goal.invariant-loop-turn
invariant-loop-turn g l = IsFurther l._turn l.fn.desk l.desk
