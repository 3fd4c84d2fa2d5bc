use Rattle.mv_format.proofs.reply_line.ReplyToJson.write.Goals as goal

pub returns-in-Submitted : goal.returns-in-Submitted
returns-in-Submitted c = rw c.in-Submitted.is c.write_numbered.ensures
