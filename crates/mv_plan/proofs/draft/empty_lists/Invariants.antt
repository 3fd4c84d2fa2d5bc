use Rattle.std.proofs.Common.{◌≡◌, ◌≤◌, [], map, replicate}
use Rattle.std.specs.Vec.{vec_capacity}
use Rattle.mv_plan.proofs.draft.empty_lists.Given as goal

-- the lists so far are empty, and there is room for the others
abbrev pub invariant-loop : goal.invariant-loop
invariant-loop l = (map (λ list. list.items) l.lists.items ≡ replicate l.counter []) × (l.count ≤ vec_capacity l.lists)
