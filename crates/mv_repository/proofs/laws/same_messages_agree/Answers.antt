use Rattle.mv_repository.proofs.HistoryLemmas.{same_about}
use Rattle.mv_repository.proofs.laws.same_messages_agree.Goals as goal

pub returns : goal.returns
returns c = same_about
