use Rattle.mv_link.proofs.LinkLemmas.{accepted_front}
use Rattle.mv_link.proofs.laws.accepted_is_prefix.Goals as goal

pub returns : goal.returns
returns c = λ list frames valid. accepted_front list frames 0 valid
