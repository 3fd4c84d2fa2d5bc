use Rattle.std.proofs.Common.{◌≡◌, ◌≤◌, replicate, vec_capacity}
use Rattle.mv_hub.proofs.hub.routing.shares_of.Given as goal

abbrev pub invariant-loop : goal.invariant-loop
invariant-loop l = (l.shares.items ≡ replicate l.counter l.message) × (l.count ≤ vec_capacity l.shares)
