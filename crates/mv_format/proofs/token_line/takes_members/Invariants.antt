use Rattle.std.proofs.Common.{length}
use Rattle.mv_format.proofs.LineFieldsLemmas.{AreFields}
use Rattle.mv_format.proofs.token_line.takes_members.Given as goal

-- the members that were taken have the fields that were met
abbrev pub invariant-loop-next : goal.invariant-loop-next
invariant-loop-next l = AreFields l.initial.reader l.met l.reader

abbrev pub decreases-loop-next : goal.decreases-loop-next
decreases-loop-next l = length l.reader
