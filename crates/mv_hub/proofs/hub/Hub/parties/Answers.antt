use Rattle.mv_hub.proofs.Words.{Sending, square-map}
use Rattle.mv_hub.proofs.hub.Hub.parties.Goals as goal

pub returns-clause-pairs : goal.returns-clause-pairs
returns-clause-pairs c = rw (← c.self.view_is) (square-map _ (λ (v : Sending). v.sent) _ c.self.invariant.square)
