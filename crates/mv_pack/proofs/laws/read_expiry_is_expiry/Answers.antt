use Rattle.mv_pack.proofs.ExpiryLemmas.{read_expiry_is_expiry}
use Rattle.mv_pack.proofs.laws.read_expiry_is_expiry.Goals as goal

pub returns : goal.returns
returns c = read_expiry_is_expiry
