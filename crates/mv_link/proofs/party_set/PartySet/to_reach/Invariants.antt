use Rattle.mv_link.proofs.Words.{length, parties_in, ◌++◌, ◌≡◌}
use Rattle.mv_link.proofs.party_set.PartySet.to_reach.Given as goal

abbrev pub invariant-loop-party : goal.invariant-loop-party
invariant-loop-party l = l.found.items ++ parties_in l.rest ≡ parties_in l.fn.self

abbrev pub decreases-loop-party : goal.decreases-loop-party
decreases-loop-party l = length (parties_in l.rest)
