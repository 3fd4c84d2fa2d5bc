use Rattle.std.proofs.Common.{◌∙◌}
use Rattle.thread_rows.proofs.hands.HereHand.call.Goals as goal

pub returns-then-is_wanting : goal.returns-then-is_wanting
returns-then-is_wanting c = c.called.ensures ∙ c.called-end.ensures
