use Rattle.mv_workers.proofs.Words.{All, HasTurns, ◌∙◌, [], ◌∷◌, ◌++◌, length, append_assoc, ap, refl, subst, sym, arith, rules, All-head, All-tail}
use Rattle.mv_workers.proofs.WorkLemmas.{begun_more}
use Rattle.mv_workers.proofs.crew.Crew.join.Goals as goal

-- one more worker gave its end back
pub loop-handle-preserved : goal.loop-handle-preserved
loop-handle-preserved g c =
    let was = c.loop-handle.invariant in
    let step = c.in-Some.ensures.steps in
    let handle = c.in-Some.handle in
    let turns = c.args.shift.now.course.now.turns in
    let given = subst (All (HasTurns turns)) step.0 was.1 in
    let both = begun_more turns was.0.0 c.loop-handle.repos.items c.loop-handle.all handle c.join-desk.result.0 c.into_end-end.result.1 was.0.2 was.0.3 c.join-desk.ensures (All-head (HasTurns turns) handle _ given) c.into_end-end.ensures.over in (
      (
        was.0.0 ++ handle ∷ [],
        append_assoc was.0.0 (handle ∷ []) _ ∙ ap (λ l. was.0.0 ++ l) (sym step.0) ∙ was.0.1,
        rw (c.push_reserved.ensures.items, c.into_end-end.ensures.end) both.0,
        rw (c.push_reserved.ensures.items, c.into_end-end.ensures.end) both.1,
      ),
      All-tail (HasTurns turns) handle _ given,
      omega (arith, ap length step.0, step.1, was.2),
      search rules,
    )

-- no worker is joined yet
pub loop-handle-init : goal.loop-handle-init
loop-handle-init g c =
    (([], search rules, search rules, rw c.requires.room.0 (tt, (λ told. refl, λ is. refl))), search rules, search rules, search rules)
