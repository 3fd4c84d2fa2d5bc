use Rattle.mv_format.proofs.Words.{◌≡◌, ◌++◌, ◌∙◌, ap, tokens_of}
use Rattle.mv_json.proofs.CallerLemmas.{printed}
use Rattle.serde_json.specs.Written.{compact_text}
use Rattle.mv_format.proofs.reply_line.line_text.Goals as goal

-- the text stands behind nothing
pub returns : goal.returns
unfolding tokens_of
returns g c =
    let begun = c.new-writer.ensures in
    let written = c.in_ok-write.ensures in
    let text : c.write.new.writer.text ≡ compact_text (g.T.ToJson.value c.args.reply.now) = printed (g.T.ToJson.value c.args.reply.now) begun.text begun.after_value written in
    ap (λ bytes. bytes.items) c.in-Ok.ensures.ok ∙ c.into_buffer.ensures.items ∙ (λ i. (written.before ∙ begun.before ∙ c.new.ensures.items) i ++ text i)
