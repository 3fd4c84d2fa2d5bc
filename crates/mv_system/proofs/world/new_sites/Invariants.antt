use Rattle.mv_system.proofs.Words.{◌≡◌, map, new_site, range_with_len}
use Rattle.mv_system.proofs.world.new_sites.Given as goal

abbrev pub invariant-loop-party : goal.invariant-loop-party
invariant-loop-party l = l.sites.items ≡ map (λ party. new_site party l.parties l.limit) (range_with_len 0 l.party)
