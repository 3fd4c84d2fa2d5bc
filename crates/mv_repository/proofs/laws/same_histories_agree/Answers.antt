use Rattle.mv_repository.proofs.HistoryLemmas.{same_history}
use Rattle.mv_repository.proofs.laws.same_histories_agree.Goals as goal

pub returns : goal.returns
returns c = same_history
