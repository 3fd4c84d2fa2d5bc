use Rattle.mv_hub.proofs.Words.{◌≡◌, ℕ, ◌&&◌, not, true, cond, ◌∷◌, ◌++◌, length, replicate, [], PushesRow, carried_by, has_party, parties_in, receipt_to}
use Rattle.mv_hub.proofs.hub.routing.put_gains.Given as goal

abbrev pub invariant-loop-to : goal.invariant-loop-to
invariant-loop-to l = record {
  row : PushesRow (length l.fn.links) l.routing.from (λ to. receipt_to l.routing to
      ++ cond (has_party l.routing.reached to && not (has_party l.rest to)) (carried_by l.routing ∷ []) []) l.fn.links l.links;
  left : (to : ℕ) → has_party l.rest to ≡ true → has_party l.routing.reached to ≡ true;
  each : l.shares.items ≡ replicate (length (parties_in l.rest)) l.routing.message.now;
}

abbrev pub decreases-loop-to : goal.decreases-loop-to
decreases-loop-to l = length (parties_in l.rest)
