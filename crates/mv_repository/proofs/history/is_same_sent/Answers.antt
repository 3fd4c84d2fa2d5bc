-- Found at once where no other search comes first.
use Rattle.mv_repository.proofs.Words.{arith, common_steps}
use Rattle.mv_repository.proofs.history.is_same_sent.Goals as goal

pub returns-in_default : goal.returns-in_default
returns-in_default c = grind (arith, common_steps)

pub returns-in_default-theirs : goal.returns-in_default-theirs
returns-in_default-theirs c = grind (arith, common_steps)

pub returns-then-sender-other_sender : goal.returns-then-sender-other_sender
returns-then-sender-other_sender c = grind (arith, common_steps)

pub returns-else-sender-other_sender : goal.returns-else-sender-other_sender
returns-else-sender-other_sender c = grind (arith, common_steps)
