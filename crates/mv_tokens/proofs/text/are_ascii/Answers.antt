use Rattle.mv_tokens.proofs.Words.{IsUtf8-from_ascii, arith}
use Rattle.mv_tokens.proofs.RunLemmas.{ascii_all}
use Rattle.mv_tokens.proofs.text.are_ascii.Goals as goal

pub returns : goal.returns
returns c = λ is. IsUtf8-from_ascii c.args.bytes.now
    (ascii_all c.args.bytes.now c.loop-at.at (omega arith) (omega arith) c.loop-at.invariant.1 (c.are_ascii_from-2.ensures is))
