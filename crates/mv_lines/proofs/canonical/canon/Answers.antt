use Rattle.std.proofs.lemmas.Result.{MatchResult-weaker}
use Rattle.mv_lines.proofs.CanonLemmas.{served_input}
use Rattle.mv_lines.proofs.canonical.canon.Goals as goal

-- what was served are the canonical texts
pub returns-clause-texts : goal.returns-clause-texts
returns-clause-texts g c =
    MatchResult-weaker c.answer_lines-ended.result c.answer_lines-ended.ensures.ok (λ u served. served_input _ _ _ _ served) (λ e t. t)
