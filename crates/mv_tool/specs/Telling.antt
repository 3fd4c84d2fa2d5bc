-- What standard error is told, where that is one of these lines.
use Rattle.std.specs.Prelude.{ℕ, List, [], ◌∷◌, ◌++◌, codes, decimal}
use Rattle.mv_lines.specs.declared.strict.Untaken.{Untaken}

-- the line on lines that were not taken: how many, and the number of the first
abbrev pub untaken_line : Untaken → List ℕ
untaken_line untaken =
    codes "mvhub: lines not taken: " ++ decimal untaken.count ++ codes ", the first: " ++ decimal untaken.first ++ 10 ∷ []
