use Rattle.mv_ends.specs.HubEnd.{SameHubEnd}
use Rattle.mv_uses.proofs.ends.carry_from.Given as goal

abbrev pub invariant-loop-to : goal.invariant-loop-to
invariant-loop-to l = SameHubEnd l.fn.hub l.hub
