use Rattle.std.proofs.Common.{◌≡◌, ◌≤◌, length, take, vec_capacity, vec_len}
use Rattle.mv_message.proofs.serials.copies_of.Given as goal

abbrev pub invariant-loop-serial : goal.invariant-loop-serial
invariant-loop-serial l =
    (l.copies.items ≡ take l.serial-index l.serials) × (vec_len l.copies ≡ l.serial-index) × (length l.serials ≤ vec_capacity l.copies)
