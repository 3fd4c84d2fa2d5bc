use Rattle.std.proofs.Common.{◌≡◌, ◌∙◌, sym, ltb-true, length, rules}
use Rattle.mv_repository.specs.Verdict.{local_verdict}
use Rattle.mv_machine.specs.State.{log_of}
use Rattle.mv_uses.proofs.ends.verdicts_in_one_outcome.Goals as goal

pub returns-clause-agreed : goal.returns-clause-agreed
returns-clause-agreed c = λ same.
    let outcome = c.args.outcome.now in
    let pack = c.args.pack.now in
    let one = ltb-true c.args.one (length outcome.hub.parties) c.requires.one in
    let other = ltb-true c.args.other (length outcome.hub.parties) c.requires.other in
    let first : c.verify.result ≡ local_verdict pack (log_of outcome c.args.one) = search rules in
    let second : c.verify-2.result ≡ local_verdict pack (log_of outcome c.args.other) = search rules in
    first ∙ (c.record.ensures.headline.agreed pack c.args.one c.args.other one other same).verdict ∙ sym second
