use Rattle.std.proofs.Common.{rules}
use Rattle.std.proofs.lemmas.List.Sums.{length-filter}
use Rattle.mv_ends.proofs.reporting.closed_count.Goals as goal

pub returns : goal.returns
returns c = search (rules, length-filter)
