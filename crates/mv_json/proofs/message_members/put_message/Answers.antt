use Rattle.mv_json.proofs.TokenLemmas.{value_named}
use Rattle.mv_json.proofs.message_members.put_message.Goals as goal

-- the members of each form are those of its value
pub returns-in-Master : goal.returns-in-Master
returns-in-Master c = rw c.in-Master.is (value_named _ _ _ _ _ c.put_object.ensures (cc))

pub returns-in_default : goal.returns-in_default
returns-in_default c = rw (c.in-Upload.is, c.in_default.is) (value_named _ _ _ _ _ c.put_object-in_default.ensures (cc))

pub returns-in-Some : goal.returns-in-Some
returns-in-Some c = rw (c.in-Upload.is, c.in-Some.is) (value_named _ _ _ _ _ c.put_object-in-Upload.ensures (cc))

pub returns-in-Status : goal.returns-in-Status
returns-in-Status c = rw c.in-Status.is (value_named _ _ _ _ _ c.put_object-in-Status.ensures (cc))

pub returns-in-Recall : goal.returns-in-Recall
returns-in-Recall c = rw c.in-Recall.is (value_named _ _ _ _ _ c.put_object-in-Recall.ensures (cc))

pub returns-in-Repack : goal.returns-in-Repack
returns-in-Repack c = rw c.in-Repack.is (value_named _ _ _ _ _ c.put_object-in-Repack.ensures (cc))

pub returns-in-Withdraw : goal.returns-in-Withdraw
returns-in-Withdraw c = rw c.in-Withdraw.is (value_named _ _ _ _ _ c.put_object-in-Withdraw.ensures (cc))

pub returns-in-Query : goal.returns-in-Query
returns-in-Query c = rw c.in-Query.is (value_named _ _ _ _ _ c.put_object-in-Query.ensures (cc))

pub returns-in-Answer : goal.returns-in-Answer
returns-in-Answer c = rw c.in-Answer.is c.put_answer.ensures
