use Rattle.mv_json.proofs.Words.{ArePlaced, deep_in, length, ◌*◌, ◌+◌}
use Rattle.mv_json.proofs.PartLemmas.{AreEntries}
use Rattle.mv_json.proofs.part_reading.+members.Given as goal

-- the members that were taken have the fields that were met
abbrev pub invariant-take_members-loop-met : goal.invariant-take_members-loop-met
invariant-take_members-loop-met l = AreEntries (deep_in l.is_inside) l.initial.reader l.met.entries.items l.reader × ArePlaced l.met

abbrev pub decreases-take_members-loop-met : goal.decreases-take_members-loop-met
decreases-take_members-loop-met l = length l.reader

abbrev pub decreases-take_members : goal.decreases-take_members
decreases-take_members l = 3 * deep_in l.is_inside + 1

abbrev pub decreases-take_part : goal.decreases-take_part
decreases-take_part l = 3 * deep_in l.is_inside

abbrev pub decreases-take_found : goal.decreases-take_found
decreases-take_found l = 2
