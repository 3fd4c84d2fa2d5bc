use Rattle.mv_tokens.proofs.Words.{get_or, length, ◌-◌, ◌<◌, ◌≤◌, ℕ}
use Rattle.mv_tokens.proofs.text.are_ascii.Given as goal

-- the bytes that were passed are ASCII
abbrev pub invariant-loop-at : goal.invariant-loop-at
invariant-loop-at l = (l.at ≤ length l.bytes) × ((k : ℕ) → k < l.at → get_or l.bytes k 0 < 128)

abbrev pub decreases-loop-at : goal.decreases-loop-at
decreases-loop-at l = length l.bytes - l.at
