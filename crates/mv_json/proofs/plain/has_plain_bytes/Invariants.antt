use Rattle.json.specs.Written.{PlainBetween}
use Rattle.mv_json.proofs.plain.has_plain_bytes.Given as goal

-- the bytes so far need no escape
abbrev pub invariant-loop-byte : goal.invariant-loop-byte
invariant-loop-byte l = PlainBetween l.text 0 l.byte-index
