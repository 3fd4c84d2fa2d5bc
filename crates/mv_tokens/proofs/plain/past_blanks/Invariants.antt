use Rattle.mv_tokens.proofs.Words.{length, ◌-◌, drop, ◌≡◌, between, lex, IsCharBoundary}
use Rattle.mv_tokens.proofs.plain.past_blanks.Given as goal

-- only blanks were passed
abbrev pub invariant-loop-at : goal.invariant-loop-at
invariant-loop-at l = (lex between (drop l.at l.text) ≡ lex between (drop l.from l.text)) × IsCharBoundary l.text l.at

abbrev pub decreases-loop-at : goal.decreases-loop-at
decreases-loop-at l = length l.bytes - l.at
