-- How a table of pairs is seen.
use Rattle.std.specs.Prelude.{List, map}
use Rattle.std.specs.declared.alloc.Global.{Global}
use Rattle.std.specs.declared.vec.Vec.{Vec}

-- the rows, by the lists that are kept of them
abbrev pub rows_of : {A : Type 0} → List (Vec A Global) → List (List A)
rows_of {A = A} rows = map (λ (row : Vec A Global). row.items) rows
