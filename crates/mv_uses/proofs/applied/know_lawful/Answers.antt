use Rattle.mv_uses.proofs.applied.know_lawful.Goals as goal

pub returns-clause-rising : goal.returns-clause-rising
returns-clause-rising c = c.items_are_submitted.ensures.rising c.args.world.now c.record.ensures.lawful
