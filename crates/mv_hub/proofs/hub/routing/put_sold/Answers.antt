use Rattle.mv_hub.proofs.Words.{arith}
use Rattle.mv_hub.proofs.hub.routing.put_sold.Goals as goal

-- there was a place for the product
pub returns-in_default-get_mut : goal.returns-in_default-get_mut
returns-in_default-get_mut c from k gtin party = absurd (grind (arith, c.requires.room c.in-Master.gtin c.in-Master.product c.in-Master.is, c.in_default-get_mut.ensures.value, c.in_default-get_mut.is))
