use Rattle.mv_json.proofs.Words.{most_markets, most_serials}
use Rattle.mv_json.proofs.PartLemmas.{listed}
use Rattle.mv_json.proofs.ReadingLemmas.{codes_inverted, markets_inverted}
use Rattle.mv_json.proofs.part_reading.take_list_part.Goals as goal

pub returns-in_ok-fitted-in-AfterSerials : goal.returns-in_ok-fitted-in-AfterSerials
returns-in_ok-fitted-in-AfterSerials c =
    let taken = c.in_ok-serials-in-AfterSerials.ensures in rw c.in_ok-fitted-in-AfterSerials.ensures (listed _ _ codes_inverted most_serials _ _ _ taken.list taken.count)

pub returns-in_ok-take_list-in-Markets : goal.returns-in_ok-take_list-in-Markets
returns-in_ok-take_list-in-Markets c =
    let taken = c.in_ok-take_list-in-Markets.ensures in listed _ _ markets_inverted most_markets _ _ _ taken.list taken.count
