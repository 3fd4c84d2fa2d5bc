use Rattle.std.proofs.Common.{◌≡◌, length, map}
use Rattle.mv_explain.specs.Explained.{first_unknown}
use Rattle.mv_explain.proofs.explaining.unknown_in.Given as goal

-- the words that were passed are codes
abbrev pub invariant-loop-words : goal.invariant-loop-words
invariant-loop-words l = first_unknown (map (λ word. word.now) l.words) ≡ first_unknown (map (λ word. word.now) l.fn.words)

abbrev pub decreases-loop-words : goal.decreases-loop-words
decreases-loop-words l = length l.words
