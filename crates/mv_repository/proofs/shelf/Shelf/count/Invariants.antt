use Rattle.mv_repository.proofs.Lemmas.{◌≡◌, ◌≤◌, slots_counted, true, false, take}
use Rattle.mv_repository.proofs.shelf.Shelf.count.Given as goal

-- those of the first slots are counted
abbrev pub invariant-loop-slot : goal.invariant-loop-slot
invariant-loop-slot l = let slots = take l.slot-index l.slot-items in
    record { held : l.held ≡ slots_counted true l.self.tracks slots; active : l.active ≡ slots_counted false l.self.tracks slots; within : l.held ≤ l.slot-index; fewer : l.active ≤ l.slot-index }
