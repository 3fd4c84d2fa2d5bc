-- What a writer took of some bytes.
use Rattle.std.specs.Prelude.{◌≡◌, ℕ, List, ◌++◌, Option}
use Rattle.std.specs.Io.KnownBytes.{Appends}

-- the first of these bytes went out, and no more
abbrev pub WrotePart : List ℕ → Option (List ℕ) → Option (List ℕ) → Type 0
WrotePart bytes old new = (out : List ℕ) × (more : List ℕ) × (bytes ≡ out ++ more) × Appends old new out
