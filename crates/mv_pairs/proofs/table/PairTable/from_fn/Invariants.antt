use Rattle.std.proofs.Common.{◌≡◌, length, Ok}
use Rattle.std.specs.List.{All}
use Rattle.mv_pairs.specs.inside.Pairs.{rows_of}
use Rattle.mv_pairs.proofs.table.PairTable.from_fn.Given as goal

abbrev pub invariant-loop-from : goal.invariant-loop-from
invariant-loop-from g l = record {
  len : length l.rows.items ≡ l._from;
  long : All (λ row. length row ≡ l.count) (rows_of l.rows.items);
  each : All (All (λ v. goal.F-post g l.make (Ok v))) (rows_of l.rows.items);
}
