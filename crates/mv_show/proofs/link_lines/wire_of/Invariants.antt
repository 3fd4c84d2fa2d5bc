use Rattle.mv_show.proofs.Words.{◌≡◌, ◌-◌, length, take, wire_of}
use Rattle.mv_show.proofs.link_lines.wire_of.Given as goal

-- the first numbers are listed
abbrev pub invariant-loop-number : goal.invariant-loop-number
invariant-loop-number l = l.numbers.items ≡ take (length l.numbers.items) (wire_of l.world l.from l.to)

abbrev pub decreases-loop-number : goal.decreases-loop-number
decreases-loop-number l = length (wire_of l.world l.from l.to) - length l.numbers.items
