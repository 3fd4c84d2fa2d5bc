use Rattle.mv_json.proofs.TokenLemmas.{nothing}
use Rattle.mv_json.proofs.message_members.put_version.Goals as goal

-- the first version says nothing
pub returns-in-One : goal.returns-in-One
returns-in-One c = rw c.in-One.is nothing
