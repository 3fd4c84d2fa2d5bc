use Rattle.std.proofs.Common.{length}
use Rattle.mv_rows.proofs.tokens.sum_of.Given as goal

-- each turn takes a token
abbrev pub decreases-loop-token : goal.decreases-loop-token
decreases-loop-token l = length l.reader
