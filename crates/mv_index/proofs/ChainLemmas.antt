-- The parts of all hashes that a bucket may have some of, and the hashes of the numbers.
use Rattle.std.proofs.Common.{◌≡◌, ℕ, bit_and, bit_or}
use Rattle.std.proofs.Math.Seq.{map-set_same}
use Rattle.std.proofs.lemmas.Nat.{and_assoc, and_or_self, or_comm}

-- a bucket that may have some of these parts may have some of them with others too
pub parts_kept : (parts more own : ℕ) → bit_and parts own ≡ own → bit_and (bit_or parts more) own ≡ own
parts_kept parts more own has = cc (and_assoc own (bit_or parts more) parts, or_comm parts more, and_or_self parts more)

-- a number that is put before another keeps its hash
pub ruleset hashes_kept = (map-set_same)
