use Rattle.mv_json.specs.declared.field.Field.TheVariants as fields
use Rattle.mv_json.proofs.Words.{entry}
use Rattle.mv_json.proofs.MetLemmas.{stands}
use Rattle.mv_json.proofs.found_reading.found_at.Goals as goal

pub returns-in-Some-clause-gives : goal.returns-in-Some-clause-gives
returns-in-Some-clause-gives c = λ value is.
    let (found, at, says) = stands (entry fields.Found c.in-Some.part.now) (rw c.in-Met.is at is).0 c.in-Some.ensures in
    rw at (c.found_in.ensures found says)
