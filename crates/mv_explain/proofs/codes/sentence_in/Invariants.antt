use Rattle.std.proofs.Common.{◌≡◌, length, map}
use Rattle.mv_explain.specs.Sentences.{sentence_in}
use Rattle.mv_explain.proofs.codes.sentence_in.Given as goal

-- the rows that were passed are of other codes
abbrev pub invariant-loop-rows : goal.invariant-loop-rows
invariant-loop-rows l =
    sentence_in (map (λ row. row.now) l.rows) l.code ≡ sentence_in (map (λ row. row.now) l.fn.rows) l.code

abbrev pub decreases-loop-rows : goal.decreases-loop-rows
decreases-loop-rows l = length l.rows
