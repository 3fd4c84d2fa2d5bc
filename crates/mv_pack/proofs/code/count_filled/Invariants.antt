use Rattle.mv_pack.proofs.Words.{count_by, is_filled, take, ◌≡◌}
use Rattle.mv_pack.proofs.code.count_filled.Given as goal

abbrev pub invariant-loop-byte : goal.invariant-loop-byte
invariant-loop-byte l = l.count ≡ count_by is_filled (take l.byte-index l.bytes)
