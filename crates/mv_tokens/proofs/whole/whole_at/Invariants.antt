use Rattle.mv_tokens.proofs.Words.{length, ◌-◌, ◌<◌, ◌≤◌, drop, ◌≡◌, ◌++◌, decimal}
use Rattle.mv_tokens.proofs.whole.whole_at.Given as goal

-- the digits that were passed are those of the number
abbrev pub invariant-loop-end : goal.invariant-loop-end
invariant-loop-end l = record {
  within : (l.at < l.end) × (l.end ≤ length l.bytes);
  digits : drop l.at l.bytes ≡ decimal l.number ++ drop l.end l.bytes;
  fits : l.number < 1000000000000000000;
}

abbrev pub decreases-loop-end : goal.decreases-loop-end
decreases-loop-end l = length l.bytes - l.end
