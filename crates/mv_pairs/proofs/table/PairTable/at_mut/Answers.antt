use Rattle.std.proofs.Common.{arith, refl}
use Rattle.std.proofs.lemmas.List.{get_or_default}
use Rattle.mv_pairs.proofs.CallerLemmas.{row_shown, row_wide, rows_put}
use Rattle.mv_pairs.proofs.table.PairTable.at_mut.Goals as goal

pub returns : goal.returns
returns g c =
    ((refl, λ w. grind (arith, rows_put)), record { lends = tt; value = λ default. grind (arith, row_shown, row_wide, get_or_default) })
