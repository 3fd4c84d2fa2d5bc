use Rattle.mv_workers.proofs.Words.{HasTurns, IsUnused, Desk, common_steps, [], arith, rules, subst, sym, All-append, All-cons, All-nil}
use Rattle.mv_workers.proofs.crew.Crew.start.Goals as goal

-- one more worker was started
pub loop-end-preserved : goal.loop-end-preserved
loop-end-preserved g c =
    let given = HasTurns c.args.shift.now.course.now.turns in
    let is = c.in_ok-start_repo.ensures in
    let unused = subst (λ (desk : Desk). IsUnused desk.end) (sym is.desk) c.new.ensures.end.1 in
    let one = All-cons given _ [] record { turns_are = is.turns; unused = unused } (All-nil given) in (
      search rules,
      search rules,
      grind (arith, common_steps),
      grind (arith, common_steps),
      rw c.push_reserved.ensures.items (All-append given c.loop-end.handles.items _ c.loop-end.invariant.4 one),
      search rules,
      search rules,
    )
