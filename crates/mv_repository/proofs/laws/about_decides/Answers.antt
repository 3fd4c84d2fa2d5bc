use Rattle.mv_repository.proofs.HistoryLemmas.{agree}
use Rattle.mv_repository.proofs.laws.about_decides.Goals as goal

pub returns : goal.returns
returns c pack one other same = agree pack one other same
