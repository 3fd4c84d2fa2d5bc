-- All have answered, or some have not.
use Rattle.mv_repository.proofs.Lemmas.{arith, few_in, verdict_known}
use Rattle.mv_repository.proofs.inquiries.Inquiries.verdict.Goals as goal

pub overflow_cast-left : goal.overflow_cast-left
overflow_cast-left c = omega (arith, few_in c.and.result)

pub returns-then-left-eq0 : goal.returns-then-left-eq0
returns-then-left-eq0 c party log is = let known = verdict_known party log c.args.self.now c.args.q c.in-Some.inquiry.now c.in-Some-asked.asked c.parties.result c.and.result c.len-left.result
    (rw (← c.get.ensures.value, c.in-Some.is)) c.in-Some-asked.is c.parties.ensures c.and.ensures c.len-left.ensures is in
    grind (arith, known)

pub returns-else-left-eq0 : goal.returns-else-left-eq0
returns-else-left-eq0 c party log is = let known = verdict_known party log c.args.self.now c.args.q c.in-Some.inquiry.now c.in-Some-asked.asked c.parties.result c.and.result c.len-left.result
    (rw (← c.get.ensures.value, c.in-Some.is)) c.in-Some-asked.is c.parties.ensures c.and.ensures c.len-left.ensures is in
    grind (arith, known)
