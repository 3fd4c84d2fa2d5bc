use Rattle.mv_json.proofs.Words.{field_name}
use Rattle.mv_json.proofs.MetLemmas.{known_only}
use Rattle.mv_json.proofs.object.Object.has_met_only.Goals as goal

pub returns-in-Met : goal.returns-in-Met
returns-in-Met c = λ all value is.
    known_only field_name (λ met. met.field) c.args.fields.now (rw c.in-Met.is at is).0 (c.has_only.ensures all)
