use Rattle.mv_json.proofs.Words.{IsUtf8, PutsValue, rules, subst, value_of}
use Rattle.mv_json.proofs.TokenLemmas.{printed, written_behind}
use Rattle.std.proofs.lemmas.Result.{on_ok_weaker}
use Rattle.mv_json.proofs.writing.write_text.Goals as goal

-- the writer began behind what the buffer held
pub returns-clause-text : goal.returns-clause-text
unfolding PutsValue
returns-clause-text c =
    let new = c.new-writer.ensures in
    let done = c.put_message-done in
    (written_behind done.result (value_of c.args.message.now) _ _ _ _ (search rules) new.text new.after_value done.ensures (search rules)).0

pub returns-clause-utf8 : goal.returns-clause-utf8
unfolding PutsValue
returns-clause-utf8 c =
    on_ok_weaker c.put_message-done.result (λ is. subst IsUtf8 is c.into_buffer.ensures.utf8)
    (printed (value_of c.args.message.now) c.new-writer.ensures.text c.new-writer.ensures.after_value c.put_message-done.ensures)
