use Rattle.mv_workers.proofs.turns.hub_turn.Given as goal
use Rattle.mv_workers.proofs.Words.{IsLaterHub}

abbrev pub invariant-loop-from : goal.invariant-loop-from
invariant-loop-from l = IsLaterHub l.fn.hub l.hub

abbrev pub invariant-loop-from-2 : goal.invariant-loop-from-2
invariant-loop-from-2 l = IsLaterHub l.fn.hub l.hub

abbrev pub invariant-loop-to : goal.invariant-loop-to
invariant-loop-to l = IsLaterHub l.fn.hub l.hub
