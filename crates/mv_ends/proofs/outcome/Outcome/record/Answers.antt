use Rattle.mv_ends.proofs.Words.{sym, state_of}
use Rattle.mv_ends.proofs.OutcomeLemmas.{headline_of}
use Rattle.mv_ends.proofs.outcome.Outcome.record.Goals as goal

pub returns-clause-headline : goal.returns-clause-headline
returns-clause-headline c =
    rw (sym c.self.view_is) (headline_of (state_of c.self.inside.hub c.self.inside.repos.items) c.self.invariant.well_formed c.self.invariant.lawful)
