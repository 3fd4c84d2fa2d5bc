use Rattle.mv_format.proofs.reply_line.write_verdict.Goals as goal

pub returns-in-Pending : goal.returns-in-Pending
returns-in-Pending c = rw c.in-Pending.is c.write_object-in-Pending.ensures
