use Rattle.std.proofs.Common.{◌∙◌, sym}
use Rattle.mv_machine.specs.State.{log_of}
use Rattle.mv_uses.proofs.verdicts.verdicts_in_one_system.Goals as goal

pub returns-clause-agreed : goal.returns-clause-agreed
returns-clause-agreed c = λ same.
    let law = c.same_messages_agree.ensures c.args.pack.now (log_of c.args.world.now c.args.one) (log_of c.args.world.now c.args.other) in
    c.verdict_of.ensures.verdict ∙ (law c.verdict_of.ensures.distinct c.verdict_of-2.ensures.distinct same).verdict ∙ sym c.verdict_of-2.ensures.verdict
