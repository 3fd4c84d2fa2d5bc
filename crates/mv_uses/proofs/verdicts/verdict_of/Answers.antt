use Rattle.std.proofs.Common.{ltb-true, length}
use Rattle.mv_uses.proofs.verdicts.verdict_of.Goals as goal

pub returns-clause-distinct : goal.returns-clause-distinct
returns-clause-distinct c =
    c.stamps_are_distinct.ensures c.args.world.now c.record.ensures.lawful c.args.party (ltb-true c.args.party (length c.args.world.now.hub.parties) c.requires)
