use Rattle.mv_json.proofs.Words.{rules}
use Rattle.mv_json.specs.declared.object.Place.TheVariants as places
use Rattle.mv_json.specs.inside.Parts.{entry}
use Rattle.mv_json.proofs.MetLemmas.{stands}
use Rattle.mv_json.proofs.PartLemmas.{is_there, not_there}
use Rattle.mv_json.proofs.object.Object.get.Goals as goal

pub returns-in_err-find-in-Met : goal.returns-in_err-find-in-Met
returns-in_err-find-in-Met c = λ value is.
    let gone = not_there c.args.field value c.in-Met.met (rw c.in-Met.is at is) c.in_err-find-in-Met.ensures in
    search (rules, gone)

pub returns-in_ok-find-in-Met : goal.returns-in_ok-find-in-Met
returns-in_ok-find-in-Met c = λ value is.
    let part = c.in_ok-find-in-Met.field-0 in
    let (found, at, says) = stands (entry c.args.field part.now) (rw c.in-Met.is at is).0 c.in_ok-find-in-Met.ensures in
    is_there c.args.field value found (places.Part part) at says
