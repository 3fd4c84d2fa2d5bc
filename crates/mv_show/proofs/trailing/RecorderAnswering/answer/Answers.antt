use Rattle.mv_show.proofs.TrailLemmas.{event_answers, event_unanswered}
use Rattle.mv_show.proofs.trailing.RecorderAnswering.answer.Goals as goal

-- the line was taken, and its event written
pub returns-clause-ok : goal.returns-clause-ok
returns-clause-ok c =
    rw (← c.self.view_is) (
    event_answers c.append_event.result _ _ c.args.number _ c.args.line.now c.in_ok-answered.answered _ (rw c.deref_mut.ensures.value at c.in_ok-answered.ensures.ok)
    (rw (c.world.ensures, c.deref.ensures) at c.append_event.ensures))

-- there is no memory for its event
pub returns-clause-left : goal.returns-clause-left
returns-clause-left c =
    rw (← c.self.view_is) (
    event_unanswered c.append_event.result c.args.number _ c.args.line.now c.in_ok-answered.answered _ (rw c.deref_mut.ensures.value at c.in_ok-answered.ensures.ok))
