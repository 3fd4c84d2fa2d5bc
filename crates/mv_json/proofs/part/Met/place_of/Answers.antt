use Rattle.mv_json.proofs.Words.{arith, get_or, get_or_default, ◌-◌}
use Rattle.mv_json.proofs.MetLemmas.{number_apart}
use Rattle.mv_json.proofs.part.Met.place_of.Goals as goal

pub returns : goal.returns
returns c =
    let place = get_or c.args.self.now.places c.number_of-number.result 0 - 1 in
    (omega arith, λ d. number_apart _ _ (grind (arith, get_or_default c.args.self.now.entries.items place d c.index.result.now)))
