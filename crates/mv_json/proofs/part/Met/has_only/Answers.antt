use Rattle.mv_json.proofs.Words.{arith, Contains-get_or, IsOneOf, field_number}
use Rattle.mv_json.proofs.MetLemmas.{one_more_marked}
use Rattle.mv_json.proofs.part.Met.has_only.Goals as goal

pub loop-field-init : goal.loop-field-init
unfolding field_number
loop-field-init c = λ field marked. grind arith

pub loop-field-preserved : goal.loop-field-preserved
unfolding IsOneOf
loop-field-preserved c =
    let here = Contains-get_or c.args.fields.now c.loop-field.field-index _ (omega arith) in
    one_more_marked _ c.loop-field.marks _ _ c.number_of.ensures.value here c.loop-field.invariant
