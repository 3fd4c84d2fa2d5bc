use Rattle.mv_json.proofs.Words.{true}
use Rattle.mv_json.proofs.TokenLemmas.{ascii_utf8, stays_utf8}
use Rattle.mv_json.proofs.text_writer.TextWriter.put.Goals as goal

-- so is an ASCII character behind it
pub invariant_of-self-2 : goal.invariant_of-self-2
invariant_of-self-2 c =
    stays_utf8 true _ _ _ _ (rw c.reserve.ensures.items at c.push_reserved.ensures.items) c.self.invariant (ascii_utf8 _ c.requires.ascii)
