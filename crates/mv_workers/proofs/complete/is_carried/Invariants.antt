use Rattle.mv_workers.proofs.Words.{◌<◌, ℕ, IsCarried}
use Rattle.mv_workers.proofs.complete.is_carried.Given as goal

abbrev pub invariant-loop-party : goal.invariant-loop-party
invariant-loop-party l = (party : ℕ) → party < l.party → IsCarried l.outcome party
