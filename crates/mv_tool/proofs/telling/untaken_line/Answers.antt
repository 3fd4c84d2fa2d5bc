use Rattle.mv_tool.proofs.Words.{IfOk-weaker, append_assoc, ◌∙◌}
use Rattle.mv_tool.proofs.telling.untaken_line.Goals as goal

pub returns : goal.returns
returns c = IfOk-weaker c.format.result _ _ (λ text is. is ∙ simp append_assoc) c.format.ensures.ok
