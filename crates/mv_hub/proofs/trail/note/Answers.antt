use Rattle.std.proofs.Common.{◌∙◌, arith}
use Rattle.std.proofs.lemmas.Map.Steps.{set_value_same}
use Rattle.mv_hub.proofs.trail.note.Goals as goal

-- the product was unknown
pub returns-clause-ok : goal.returns-clause-ok
returns-clause-ok c = λ other.
    let written = c.in_ok-insert.ensures.updates.0 other in
    written ∙ rw (c.get_mut.follows.holds-at-none, ← c.in_default.ensures.value)
    (grind (arith, c.in_ok-note.ensures.ok, c.new-listed.ensures))

-- it was known
pub returns-in-Some-clause-ok : goal.returns-in-Some-clause-ok
returns-in-Some-clause-ok c = grind arith

-- what was read is put back
pub returns-in-Some-clause-err : goal.returns-in-Some-clause-err
returns-in-Some-clause-err c = grind (arith, set_value_same)
