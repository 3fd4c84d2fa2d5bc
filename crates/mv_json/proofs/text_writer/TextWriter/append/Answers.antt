use Rattle.mv_json.proofs.TokenLemmas.{stays_utf8}
use Rattle.mv_json.proofs.text_writer.TextWriter.append.Goals as goal

-- a text is UTF-8
pub invariant_of-self : goal.invariant_of-self
invariant_of-self c = stays_utf8 _ _ _ _ _ c.extend_from_slice.ensures.items c.self.invariant c.as_bytes.ensures.utf8
