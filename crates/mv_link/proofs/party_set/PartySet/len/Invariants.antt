use Rattle.mv_link.proofs.Words.{length, parties_in, ◌≡◌}
use Rattle.std.proofs.Common.{◌+◌}
use Rattle.mv_link.proofs.party_set.PartySet.len.Given as goal

-- those that were taken out were counted
abbrev pub invariant-loop-rest : goal.invariant-loop-rest
invariant-loop-rest l = l.count + length (parties_in l.rest) ≡ length (parties_in l.fn.self)

abbrev pub decreases-loop-rest : goal.decreases-loop-rest
decreases-loop-rest l = length (parties_in l.rest)
