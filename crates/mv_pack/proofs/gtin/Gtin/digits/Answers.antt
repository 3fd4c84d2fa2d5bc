use Rattle.std.proofs.Common.{arith}
use Rattle.mv_pack.proofs.TextLemmas.{all_values}
use Rattle.mv_pack.proofs.gtin.Gtin.digits.Goals as goal

-- each number is that of the byte at its place
pub returns : goal.returns
returns c =
    let items = c.map.ensures.items in
    all_values c.args.self.now c.map.result (grind (arith, c.self.view_is, items.long))
    (λ k below. grind (arith, c.self.view_is, items.at k 0 0, items.long))
