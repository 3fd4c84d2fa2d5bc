use Rattle.std.proofs.Common.{◌∙◌, refl, rules}
use Rattle.mv_json.proofs.ReadingLemmas.{read_by_fields}
use Rattle.mv_json.proofs.message_reading.message_in.Goals as goal

pub returns : goal.returns
returns c = λ value is.
    let only = rw c.fields.ensures at (c.if-not-has_met_only.ensures refl value is) in
    read_by_fields value c.in_ok-version.version c.in_ok-form.form (search rules) (search rules) only ∙ c.in_ok-message.ensures.gives value is
