use Rattle.mv_tokens.proofs.RunLemmas.{ascii_from}
use Rattle.mv_tokens.proofs.text.are_ascii_from.Goals as goal

pub returns : goal.returns
returns c = ascii_from c.args.bytes.now c.args.at c.requires.within
