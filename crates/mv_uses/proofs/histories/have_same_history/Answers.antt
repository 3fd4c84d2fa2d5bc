use Rattle.std.proofs.Common.{◌∙◌, ap, sym}
use Rattle.mv_repository.specs.Agreement.{as_sent}
use Rattle.mv_uses.proofs.histories.have_same_history.Goals as goal

pub returns-clause-agreed : goal.returns-clause-agreed
returns-clause-agreed c = λ same.
    c.same_histories_agree.ensures c.args.pack.now c.args.one.now.log c.args.other.now.log
    (sym (ap as_sent c.history.ensures) ∙ c.is_same.ensures.0 same ∙ ap as_sent c.history-2.ensures)
