use Rattle.mv_json.proofs.Words.{[], rules, tokens, ◌≡◌}
use Rattle.mv_json.proofs.PartLemmas.{text_read}
use Rattle.mv_json.proofs.message_reading.read_by_tokens.Goals as goal

-- the message is all that the text holds
pub returns : goal.returns
returns c =
    let starts : c.new-reader.result ≡ tokens c.args.bytes.now = search (rules, c.in_ok-text.ensures.0) in
    let ended : c.take_message.new.reader ≡ [] = search rules in
    text_read _ _ c.in_ok-text.ensures.1 (rw (starts, ended) at c.in_ok-message.ensures)
