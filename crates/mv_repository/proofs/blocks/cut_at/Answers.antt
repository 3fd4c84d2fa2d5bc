-- One block further.
use Rattle.mv_repository.proofs.Lemmas.{arith, refl, entry_at, next_in, get_or_default, common_steps}
use Rattle.mv_repository.proofs.TrackLemmas.{cut_next}
use Rattle.mv_repository.proofs.blocks.cut_at.Goals as goal

pub loop-cut-preserved : goal.loop-cut-preserved
loop-cut-preserved c = record { at = omega arith; number = omega arith; cut = λ own are. cut_next (entry_at c.args.basis.now.log.now) (next_in c.args.basis.now) c.args.basis.now.birth (λ n. refl) c.args.blocks.now.items own c.loop-cut.cut c.index-block.result.now (omega arith) c.index-block.ensures (c.loop-cut.invariant.cut own are) }

pub returns-then-at-cut-clause-inside : goal.returns-then-at-cut-clause-inside
returns-then-at-cut-clause-inside c = grind (arith, common_steps, get_or_default)
