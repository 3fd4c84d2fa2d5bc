use Rattle.mv_engine.proofs.Words.{IfErr-weaker, append-nil, ap, append_assoc, arith, err_from_is_err_and, on_ok_weaker, [], ◌++◌, ◌∙◌, ◌≡◌}
use Rattle.mv_engine.proofs.PartLemmas.{cut_line, absent_unended}
use Rattle.mv_engine.proofs.RepliesLemmas.{part_taken, stopped_in, stopped_more, taken_more}
use Rattle.mv_engine.proofs.input.Input.take_all.Goals as goal

-- this line stopped it
pub returns-in_err-take_line-clause-err : goal.returns-in_err-take_line-clause-err
returns-in_err-take_line-clause-err g c =
    let p = err_from_is_err_and c.from_residual.result c.from_residual.ensures.1 in
    let cut = cut_line c.loop-end.rest.now c.in-Some.end c.in-Some.ensures in
    let (out, grown, stopped) = c.in_err-take_line.ensures.err _ in
    rw (p.1, p.2)
    (stopped_more g.S.Answering.replies _ (c.loop-end.invariant.2 ∙ ap (λ l. c.loop-end.invariant.0 ++ l) cut) grown c.loop-end.invariant.1 stopped)

-- one more line is taken
pub loop-end-preserved : goal.loop-end-preserved
loop-end-preserved g c =
    let cut = cut_line c.loop-end.rest.now c.in-Some.end c.in-Some.ensures in
    let (out, grown, taken) = c.in_ok-take_line.ensures.ok in
    (_, rw (← grown) at (taken_more g.S.Answering.replies c.loop-end.invariant.1 taken), grind (arith, append_assoc))

-- the rest is taken
pub returns-clause-ok : goal.returns-clause-ok
returns-clause-ok g c =
    rw c.loop-end.invariant.2 (on_ok_weaker c.take_part.result (λ (took : c.take_part.new.self.begun.items ≡ c.loop-end.self.begun.items ++ c.loop-end.rest.now).
    let part = part_taken g.S.Answering.replies _ _ _ _ _ _ (absent_unended _ c.in_default.ensures) c.loop-end.self.few took c.take_part.ensures.lines in
    rw c.take_part.ensures.replies (rw append-nil at (taken_more g.S.Answering.replies c.loop-end.invariant.1 part))) c.take_part.ensures.ok)

-- the rest stopped it
pub returns-clause-err : goal.returns-clause-err
returns-clause-err g c =
    IfErr-weaker c.take_part.result _ _ (λ fault stops.
    let part = stopped_in g.S.Answering.replies _ _ _ [] _ _ _ (absent_unended _ c.in_default.ensures) c.loop-end.self.few stops in
    stopped_more g.S.Answering.replies _ (simp append-nil c.loop-end.invariant.2) (simp append-nil c.take_part.ensures.replies)
    c.loop-end.invariant.1 part) c.take_part.ensures.err
