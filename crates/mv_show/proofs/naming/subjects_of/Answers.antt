use Rattle.mv_show.proofs.Words.{fold-append, rules}
use Rattle.mv_show.proofs.naming.subjects_of.Goals as goal

pub returns : goal.returns
returns c = search (rules, fold-append)
