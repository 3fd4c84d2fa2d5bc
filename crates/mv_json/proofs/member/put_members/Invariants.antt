use Rattle.mv_json.proofs.Words.{take, Ok, AllocError, Puts, members_put}
use Rattle.mv_json.proofs.member.put_members.Given as goal

-- the first members were put
abbrev pub invariant-loop-field : goal.invariant-loop-field
invariant-loop-field l = Puts {E = AllocError} (Ok tt) l.fn.writer l.writer (members_put (take l.field-index l.members))
