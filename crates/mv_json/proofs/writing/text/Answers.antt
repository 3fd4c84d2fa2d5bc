use Rattle.mv_json.proofs.Words.{◌∙◌, ◌++◌, ap, IsUtf8-string_bytes, compact_text, value_of}
use Rattle.mv_json.proofs.ValueLemmas.{canonical_reads_back}
use Rattle.mv_json.proofs.writing.text.Goals as goal

-- the text stands behind nothing
pub returns-clause-reads_back : goal.returns-clause-reads_back
returns-clause-reads_back c =
    let message = c.args.message.now in
    let bytes = c.in_ok-write_text.ensures.text ∙ ap (λ front. front ++ compact_text (value_of message)) c.new-bytes.ensures.items in
    canonical_reads_back message _ (IsUtf8-string_bytes c.in-Ok.text) (ap (λ v. v.items) c.in-Ok.ensures.ok ∙ bytes) c.know_words.ensures
