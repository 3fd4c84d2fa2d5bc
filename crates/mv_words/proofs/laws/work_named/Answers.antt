use Rattle.mv_words.proofs.AskLemmas.{option_asks}
use Rattle.mv_words.proofs.laws.work_named.Goals as goal

pub returns : goal.returns
returns c = option_asks
