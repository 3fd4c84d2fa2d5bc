use Rattle.mv_json.proofs.ReadingLemmas.{first_fault_is_given}
use Rattle.mv_json.proofs.laws.first_fault_is_given.Goals as goal

-- the law as it stands in the lemmas
pub returns : goal.returns
returns c = first_fault_is_given
