-- What an index of numbers by hashes is seen as, and the hash of a value.
use Rattle.std.specs.Prelude.{◌/◌, ◌%◌, ◌^◌, ℕ, List, [], fold, bit_xor}
use Rattle.std.specs.Hash.FoldHasher as folding

-- the numbers from 0 on, each with the hash of what it stands for
pub record Hashes : Type 0 where
  pub hashes : List ℕ  -- that of number 0 first
  pub room : ℕ  -- for so many numbers more

-- no number
abbrev pub no_hashes : Hashes
no_hashes = record { hashes = []; room = 0 }

-- The hash of a value, by what it gives to a hasher: that of the library, of 64 bits, with its halves folded together.
unfoldable pub short_hash : List (List ℕ) → ℕ
short_hash fed =
    let hash = folding.finish (fold folding.write folding.initial fed) in
    bit_xor hash (hash / 2 ^ 32) % 2 ^ 32
