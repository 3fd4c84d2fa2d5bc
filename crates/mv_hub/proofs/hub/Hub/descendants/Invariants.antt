use Rattle.mv_hub.proofs.Words.{linked_to, ◌-◌}
use Rattle.mv_hub.proofs.TrailLemmas.{IsSearching}
use Rattle.mv_hub.proofs.hub.Hub.descendants.Given as goal

abbrev pub invariant-loop-next : goal.invariant-loop-next
invariant-loop-next l = IsSearching (linked_to l.self.entries) l.batch l.next l.reached.keys

-- a set never has so many members
abbrev pub decreases-loop-next : goal.decreases-loop-next
decreases-loop-next l = 18446744073709551615 - l.next
