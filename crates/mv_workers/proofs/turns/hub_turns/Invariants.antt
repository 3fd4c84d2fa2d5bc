use Rattle.mv_workers.proofs.turns.hub_turns.Given as goal
use Rattle.mv_workers.proofs.Words.{IsLaterHub}

abbrev pub invariant-loop-turn : goal.invariant-loop-turn
invariant-loop-turn g l = IsLaterHub l.fn.hub l.hub
