use Rattle.mv_hub.proofs.Words.{rules}
use Rattle.mv_hub.proofs.HubLemmas.{sold-same}
use Rattle.mv_hub.proofs.hub.routing.reserve_sold.Goals as goal

pub returns-in-Ok-clause-same : goal.returns-in-Ok-clause-same
returns-in-Ok-clause-same c gtin party = sold-same c.args.sold.now.entries _ _ c.in-Master.gtin _ c.none.result c.or_insert.result.now (c.in-Ok.ensures.update.0 c.or_insert.result.now).0 (search rules) c.in-Ok.ensures.value c.or_insert.ensures.value c.none.ensures gtin party
