use Rattle.mv_hub.proofs.Words.{arith, common_steps, take_more}
use Rattle.mv_hub.proofs.PartiesLemmas.{noted-none, noted-more}
use Rattle.mv_hub.proofs.parties.MarketTable.of.Goals as goal

pub loop-party-init : goal.loop-party-init
loop-party-init c = noted-none

pub loop-market-preserved : goal.loop-market-preserved
loop-market-preserved c =
    let place = c.place-place.ensures in
    rw (place.value, take_more c.as_slice-market-items.result.now c.loop-market.market-index c.market-item.result c.loop-market-test.true, ← c.market-item.is)
    (noted-more _ _ c.market-item.result c.loop-party.party c.loop-market.noted c.loop-market.once (grind (arith, common_steps)) c.loop-market.invariant
    place.market (rw place.value at place.within))
