use Rattle.mv_ends.proofs.Words.{◌≡◌, length, vec_items, state_of}
use Rattle.mv_ends.proofs.OutcomeLemmas.{IsGathering}
use Rattle.mv_ends.proofs.outcome.gather.Given as goal

abbrev pub invariant-loop-party : goal.invariant-loop-party
invariant-loop-party l = (l.count ≡ length l.hub.hub.parties) × IsGathering (state_of l.fn.hub (vec_items l.fn.repos)) l.hub (vec_items l.repos) l.party
