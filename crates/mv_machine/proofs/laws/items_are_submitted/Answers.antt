use Rattle.mv_machine.proofs.PutLemmas.{numbers_rise}
use Rattle.mv_machine.proofs.laws.items_are_submitted.Goals as goal

pub returns-clause-rising : goal.returns-clause-rising
returns-clause-rising c = numbers_rise
