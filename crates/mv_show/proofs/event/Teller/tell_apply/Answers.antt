use Rattle.mv_show.proofs.TrailLemmas.{applied_tells}
use Rattle.mv_show.proofs.event.Teller.tell_apply.Goals as goal

-- a receipt
pub returns-in-Applied-Receipt : goal.returns-in-Applied-Receipt
returns-in-Applied-Receipt c =
    applied_tells _ _ _ _ c.args.from _ _ _ _ _ _ _ _ c.in-Applied-Receipt.is-0 c.in-Some.ensures c.in-Applied-Receipt.is-1 (rw c.code.ensures at c.say.ensures)

-- a message
pub returns-in-Applied-Carried : goal.returns-in-Applied-Carried
returns-in-Applied-Carried c =
    applied_tells _ _ _ _ c.args.from _ _ _ _ _ _ _ _ c.in-Applied-Carried.is-0 c.in-Some.ensures c.in-Applied-Carried.is-1
    (rw (c.wide.ensures, c.code-in-Applied-Carried.ensures, c.get.ensures, c.new_packs.ensures, c.old_packs.ensures) at c.say-in-Applied-Carried.ensures)
