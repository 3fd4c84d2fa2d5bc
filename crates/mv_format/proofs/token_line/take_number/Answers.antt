use Rattle.mv_format.proofs.Words.{rules, ◌≡◌}
use Rattle.mv_format.proofs.LineFieldsLemmas.{number_says}
use Rattle.mv_format.proofs.token_line.take_number.Goals as goal

pub returns : goal.returns
returns c =
    let (text, is, numbered) = c.in_ok-take_whole.ensures in
    let same : c.in_ok-number.number ≡ c.in_ok-take_whole.field-0 = search rules in
    number_says _ _ _ text is (rw same numbered) (search rules)
