use Rattle.mv_format.proofs.Words.{rules}
use Rattle.mv_format.proofs.WritingLemmas.{appended}
use Rattle.mv_format.specs.ReplyLines.{message_fault_value}
use Rattle.mv_format.proofs.reply_line.append_refusal.Goals as goal

-- the writer began behind what the buffer held
pub returns : goal.returns
returns c =
    let begun = c.new-writer.ensures in
    let done = c.write_message_fault-done in
    appended done.result (message_fault_value c.args.line c.args.fault.now) c.args.out.now.items c.into_buffer.result.items c.new-writer.result done.new.writer
    (search rules) begun.text begun.after_value done.ensures (search rules)
