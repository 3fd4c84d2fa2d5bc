use Rattle.mv_show.proofs.Words.{◌≡◌, take, insert_all, is_same_subject, named_of}
use Rattle.mv_show.proofs.naming.note_named.Given as goal

-- what the first entries name is noted
abbrev pub invariant-loop-entry : goal.invariant-loop-entry
invariant-loop-entry l = l.subjects.keys ≡ insert_all is_same_subject l.initial.subjects.keys (named_of l.kind (take l.entry-index l.log))
