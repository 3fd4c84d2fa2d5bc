-- One status more.
use Rattle.mv_repository.proofs.Words.{AllByRecursion, IsCovered, arith, common_steps, entry_at, subst, take_all}
use Rattle.mv_repository.proofs.TrackLemmas.{covered-more}
use Rattle.mv_repository.proofs.blocks.Block.of.Goals as goal

pub loop-place-preserved : goal.loop-place-preserved
loop-place-preserved c =
    covered-more (entry_at c.args.basis.now.log.now) c.loop-place.reverters _ c.args.own.now c.loop-place.place-index c.loop-place-test.true
    (λ other h. grind (arith, common_steps)) (λ active. grind (arith, common_steps)) c.loop-place.invariant

pub pass-requires : goal.pass-requires
pass-requires c = (c.after-of_active.ensures, subst (AllByRecursion (λ place. IsCovered c.loop-place.reverters (entry_at c.args.basis.now.log.now place))) (take_all c.loop-place.place-index c.args.own.now c.loop-place-test.false) c.loop-place.invariant)

pub returns-clause-summary : goal.returns-clause-summary
returns-clause-summary c = (c.after-of_active.ensures, subst (AllByRecursion (λ place. IsCovered c.loop-place.reverters (entry_at c.args.basis.now.log.now place))) (take_all c.loop-place.place-index c.args.own.now c.loop-place-test.false) c.loop-place.invariant)
