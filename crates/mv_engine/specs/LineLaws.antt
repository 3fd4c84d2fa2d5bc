-- The laws of the pieces of an input, and of its lines.
use Rattle.std.specs.Prelude.{◌≡◌, ℕ, List, [], ◌∷◌, ◌++◌, All}
use Rattle.mv_engine.specs.Lines.{whole_from, rest_from, unless_empty, pieces, lines_of, IsUnended}
use Rattle.mv_engine.specs.Replies.{text_lines}

-- the pieces that end by a line feed, each with it, and behind them what stands behind the last one, are the bytes
abbrev pub PiecesRejoin : Type 0
PiecesRejoin = (bytes : List ℕ) → text_lines (whole_from [] bytes) ++ rest_from [] bytes ≡ bytes

-- no piece has a line feed in it
abbrev pub PiecesAreUnended : Type 0
PiecesAreUnended = (bytes : List ℕ) → All IsUnended (pieces bytes)

-- texts without line feeds, written with one behind each, and a last one with none behind it, are read as these pieces
abbrev pub PiecesReadBack : Type 0
PiecesReadBack =
    (texts : List (List ℕ)) (last : List ℕ) → All IsUnended texts → IsUnended last
    → pieces (text_lines texts ++ last) ≡ texts ++ unless_empty last

-- behind a line feed the pieces begin anew
abbrev pub PiecesCompose : Type 0
PiecesCompose = (front back : List ℕ) → pieces (front ++ 10 ∷ back) ≡ pieces (front ++ 10 ∷ []) ++ pieces back

-- the lines of two parts with a line feed between them are those of the one and then those of the other
abbrev pub LinesCompose : Type 0
LinesCompose = (front back : List ℕ) → lines_of (pieces (front ++ 10 ∷ back)) ≡ lines_of (pieces front) ++ lines_of (pieces back)
