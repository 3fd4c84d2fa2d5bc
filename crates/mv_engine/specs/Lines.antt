-- The lines of an input, and the limits of the format (docs/FORMATS.md, Lines).
use Rattle.std.specs.Prelude.{◌≢◌, ℕ, ◌+◌, ◌≤◌, List, [], ◌∷◌, ◌++◌, ◌==◌, if◌then◌else◌, map, length, All, EachIndex, slice_index}
use Rattle.std.specs.Io.BufRead.{strip_last}

-- the pieces of the bytes that end by a line feed, without it, in order; `begun` is what the first has so far
abbrev pub whole_from : List ℕ → List ℕ → List (List ℕ)
whole_from begun [] = []
whole_from begun (x ∷ xs) = if x == 10 then begun ∷ whole_from [] xs else whole_from (begun ++ x ∷ []) xs

-- none of the bytes ends a line
abbrev pub IsUnended : List ℕ → Type 0
IsUnended bytes = EachIndex bytes (λ k. slice_index bytes k ≢ 10)

-- what stands behind the last line feed
abbrev pub rest_from : List ℕ → List ℕ → List ℕ
rest_from begun [] = begun
rest_from begun (x ∷ xs) = if x == 10 then rest_from [] xs else rest_from (begun ++ x ∷ []) xs

-- a list of these bytes alone, or the empty list where there are none: of a last piece without line feed, and of a line
abbrev pub unless_empty : List ℕ → List (List ℕ)
unless_empty [] = []
unless_empty (x ∷ xs) = (x ∷ xs) ∷ []

-- all pieces of an input, in order
abbrev pub pieces : List ℕ → List (List ℕ)
pieces bytes = whole_from [] bytes ++ unless_empty (rest_from [] bytes)

-- a line that isn't empty: which of the input it is, counted from one with the empty ones, and its bytes
pub record Line : Type 0 where
  pub number : ℕ
  pub bytes : List ℕ

abbrev pub line_at : ℕ → List ℕ → Line
line_at number bytes = record { number = number; bytes = bytes }

-- The lines that pieces are which come after `count` others, without those that are empty: one final carriage return (13) is dropped
-- of each piece.
abbrev pub lines_from : ℕ → List (List ℕ) → List Line
lines_from count [] = []
lines_from count (piece ∷ ps) = map (line_at (count + 1)) (unless_empty (strip_last 13 piece)) ++ lines_from (count + 1) ps

-- the bytes of the lines that pieces are
abbrev pub lines_of : List (List ℕ) → List (List ℕ)
lines_of ps = map (λ line. line.bytes) (lines_from 0 ps)

-- the bytes that a line has at most, its line feed not counted
abbrev pub line_limit : ℕ
line_limit = 65536

-- the lines that a run has at most
abbrev pub lines_limit : ℕ
lines_limit = 1000000

-- Behind `count` lines these pieces are no more than a run may have, and none is longer than a line may be, its carriage return counted.
pub record KeepLimits (count : ℕ) (ps : List (List ℕ)) : Type 0 where
  pub few : count + length ps ≤ lines_limit
  pub short : All (λ piece. length piece ≤ line_limit) ps
