use Rattle.mv_words.proofs.AskLemmas.{explain_asks}
use Rattle.mv_words.proofs.laws.explain_named.Goals as goal

pub returns : goal.returns
returns c = explain_asks
