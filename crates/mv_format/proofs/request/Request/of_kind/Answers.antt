use Rattle.mv_format.proofs.Words.{rules}
use Rattle.mv_format.proofs.request.Request.of_kind.Goals as goal

-- each kind by its fields
pub returns-in-Open : goal.returns-in-Open
returns-in-Open c = rw c.in-Open.is c.open_of.ensures

pub returns-in-Verify : goal.returns-in-Verify
returns-in-Verify c = rw c.in-Verify.is c.verify_of.ensures

pub returns-in_ok-message_of-in-Submit : goal.returns-in_ok-message_of-in-Submit
returns-in_ok-message_of-in-Submit c = rw c.in-Submit.is (search rules)

pub returns-in_ok-number_of-in-Route : goal.returns-in_ok-number_of-in-Route
returns-in_ok-number_of-in-Route c = rw c.in-Route.is (search rules)

pub returns-in_ok-number_of-in-Relay-2 : goal.returns-in_ok-number_of-in-Relay-2
returns-in_ok-number_of-in-Relay-2 c = rw c.in-Relay.is (search rules)

pub returns-in_ok-number_of-in-Apply-2 : goal.returns-in_ok-number_of-in-Apply-2
returns-in_ok-number_of-in-Apply-2 c = rw c.in-Apply.is (search rules)

pub returns-in_ok-number_of-in-Close-2 : goal.returns-in_ok-number_of-in-Close-2
returns-in_ok-number_of-in-Close-2 c = rw c.in-Close.is (search rules)

pub returns-in_ok-number_of-in-Lose-2 : goal.returns-in_ok-number_of-in-Lose-2
returns-in_ok-number_of-in-Lose-2 c = rw c.in-Lose.is (search rules)

pub returns-in_ok-number_of-in-Verdict-2 : goal.returns-in_ok-number_of-in-Verdict-2
returns-in_ok-number_of-in-Verdict-2 c = rw c.in-Verdict.is (search rules)

pub returns-in_ok-number_of-in-Repeat-3 : goal.returns-in_ok-number_of-in-Repeat-3
returns-in_ok-number_of-in-Repeat-3 c = rw c.in-Repeat.is (search rules)
