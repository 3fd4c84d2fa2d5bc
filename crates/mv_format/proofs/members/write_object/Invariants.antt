use Rattle.mv_format.proofs.Words.{AllocError, Ok, ◌∷◌, flat_map, take, begin_object, member_tokens}
use Rattle.mv_json.specs.Tokens.{Puts}
use Rattle.mv_format.proofs.members.write_object.Given as goal

-- the first members are written
abbrev pub invariant-loop-member : goal.invariant-loop-member
invariant-loop-member l = Puts {E = AllocError} (Ok tt) l.fn.writer l.writer (begin_object ∷ flat_map member_tokens (take l.member-index l.members))
