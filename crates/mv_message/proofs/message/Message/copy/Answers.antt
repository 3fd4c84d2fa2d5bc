use Rattle.std.proofs.Common.{arith, refl}
use Rattle.mv_message.proofs.message.Message.copy.Goals as goal

-- the parts that were copied, one after another, are those of the message
pub returns-in_ok-serials-in-Upload-clause-copy : goal.returns-in_ok-serials-in-Upload-clause-copy
returns-in_ok-serials-in-Upload-clause-copy c =
    rw c.in-Upload.is (rw c.copy-in-Upload-2.ensures (rw c.national_copy.ensures (rw c.in_ok-serials-in-Upload.ensures refl)))

pub returns-in_ok-user-in-Status-clause-copy : goal.returns-in_ok-user-in-Status-clause-copy
returns-in_ok-user-in-Status-clause-copy c = rw c.in-Status.is (rw c.copy-in-Status-2.ensures (rw c.in_ok-user-in-Status.ensures refl))

pub returns-in_ok-after-in-Repack-clause-copy : goal.returns-in_ok-after-in-Repack-clause-copy
returns-in_ok-after-in-Repack-clause-copy c = grind (arith, c.in-Repack.is, c.in_ok-before-in-Repack.ensures, c.in_ok-after-in-Repack.ensures)

pub returns-in-Answer-clause-copy : goal.returns-in-Answer-clause-copy
returns-in-Answer-clause-copy c = rw c.in-Answer.is (rw c.copy-in-Answer.ensures (rw c.copy-in-Answer-2.ensures refl))

pub returns-in-Recall-clause-copy : goal.returns-in-Recall-clause-copy
returns-in-Recall-clause-copy c = rw c.in-Recall.is (rw c.copy-in-Recall.ensures refl)

pub returns-in-Withdraw-clause-copy : goal.returns-in-Withdraw-clause-copy
returns-in-Withdraw-clause-copy c = rw c.in-Withdraw.is refl

pub returns-in-Query-clause-copy : goal.returns-in-Query-clause-copy
returns-in-Query-clause-copy c = rw c.in-Query.is (rw c.copy-in-Query.ensures refl)
