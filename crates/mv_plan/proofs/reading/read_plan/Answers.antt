use Rattle.std.proofs.Common.{[], arith, rules}
use Rattle.mv_plan.proofs.Lemmas.{are_planned}
use Rattle.mv_plan.proofs.reading.read_plan.Goals as goal

pub returns-in-Ok-clause-ok : goal.returns-in-Ok-clause-ok
returns-in-Ok-clause-ok g c = grind (arith, are_planned)

-- memory may be refused before anything was read
pub returns-in-Err-Write-clause-err : goal.returns-in-Err-Write-clause-err
returns-in-Err-Write-clause-err g c = ([], c.in-Err-Write.ensures.err.0, c.in-Err-Write.ensures.err.1, tt, search rules)
