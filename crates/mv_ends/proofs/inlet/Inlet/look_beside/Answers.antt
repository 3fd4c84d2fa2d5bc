use Rattle.mv_ends.proofs.Words.{arith, known_items, sent}
use Rattle.mv_ends.proofs.HandLemmas.{front_taken}
use Rattle.mv_ends.proofs.inlet.Inlet.look_beside.Goals as goal

pub returns-clause-front : goal.returns-clause-front
returns-clause-front g c =
    front_taken c.args.self.now (known_items c.slots_beside.new.self) (sent c.args.producer.now)
    (grind (arith, c.slots_beside.ensures.looked, c.slots_beside.ensures.producer, c.slots_beside.ensures.fifo))
