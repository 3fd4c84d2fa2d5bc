use Rattle.mv_format.proofs.Words.{rules}
use Rattle.mv_format.proofs.WritingLemmas.{appended}
use Rattle.mv_format.proofs.to_json.append_json.Goals as goal

-- the writer began behind what the buffer held
pub returns : goal.returns
returns g c =
    let begun = c.new-writer.ensures in
    appended c.write-done.result (g.T.ToJson.value c.args.value.now) c.args.out.now.items c.into_buffer.result.items c.new-writer.result c.write-done.new.writer
    (search rules) begun.text begun.after_value c.write-done.ensures (search rules)
