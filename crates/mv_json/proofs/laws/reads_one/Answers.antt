use Rattle.mv_json.proofs.ReadingLemmas.{spelled_is_read}
use Rattle.mv_json.proofs.laws.reads_one.Goals as goal

-- the law as it stands in the lemmas
pub returns : goal.returns
returns c = λ d m n h k. let one = spelled_is_read d m h in let other = spelled_is_read d n k in cc
