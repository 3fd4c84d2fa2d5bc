use Rattle.mv_ends.proofs.Words.{head_line, party_line}
use Rattle.mv_ends.proofs.ReportLemmas.{lines_more}
use Rattle.mv_ends.proofs.reporting.report.Goals as goal

pub loop-party-preserved : goal.loop-party-preserved
loop-party-preserved c = lines_more (party_line c.args.outcome.now) head_line _ _ c.loop-party.party c.loop-party.invariant c.in_ok-push_party.ensures
