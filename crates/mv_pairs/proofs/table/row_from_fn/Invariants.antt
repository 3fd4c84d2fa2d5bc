use Rattle.std.proofs.Common.{◌≡◌, length, Ok}
use Rattle.std.specs.List.{All}
use Rattle.mv_pairs.proofs.table.row_from_fn.Given as goal

abbrev pub invariant-loop-to : goal.invariant-loop-to
invariant-loop-to g l = record {
  len : length l.row.items ≡ l._to;
  each : All (λ v. goal.F-post g l.make (Ok v)) l.row.items;
}
