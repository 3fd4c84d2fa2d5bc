use Rattle.std.proofs.Common.{rules, arith, [], ◌∷◌}
use Rattle.mv_format.proofs.LineFieldsLemmas.{taken}
use Rattle.mv_format.specs.declared.field.LineField.TheVariants as fields
use Rattle.mv_format.proofs.token_line.link_met.Goals as goal

pub returns : goal.returns
returns c = (search rules, search rules, taken c.args.met.now _ (fields.From ∷ fields.To ∷ []) [] c.in_ok-end.ensures (λ field. grind arith))
