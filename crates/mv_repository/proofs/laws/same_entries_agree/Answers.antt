use Rattle.mv_repository.proofs.HistoryLemmas.{same_entries}
use Rattle.mv_repository.proofs.laws.same_entries_agree.Goals as goal

pub returns : goal.returns
returns c = same_entries
