use Rattle.mv_json.proofs.ReadingLemmas.{read_is_spelled, spelled_is_read}
use Rattle.mv_json.proofs.laws.reads_exactly.Goals as goal

-- the law as it stands in the lemmas
pub returns : goal.returns
returns c = λ d m. (read_is_spelled d m, spelled_is_read d m)
