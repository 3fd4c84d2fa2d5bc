-- The block in which the status stands is worked out again. One block further; from where the pack stands as it did, all is as it was.
use Rattle.mv_repository.proofs.Words.{AreBlocks, Block, IsFront, List, drop, subst, sym, ℕ, ◌≡◌, ◌∙◌, get_or, refl, rules, arith, entry_at, next_in, take-append-drop, take_all, common_steps}
use Rattle.mv_repository.proofs.TrackLemmas.{fold-cut, late_within, pass-after, pass-behind, pass-front, renewed}
use Rattle.mv_repository.proofs.blocks.pass_on.Goals as goal

pub loop-number-init : goal.loop-number-init
loop-number-init c =
    let read : c.index_mut-block.result.now ≡ get_or c.args.blocks.now.items c.args.cut.number c.index_mut-block.result.now = search rules in
    let done =
    renewed (entry_at c.args.basis.now.log.now) (next_in c.args.basis.now) c.args.basis.now.birth (λ n. refl) c.args.blocks.now.items c.args.own.now c.args.at c.args.cut c.requires.within c.requires.at c.requires.cut
    c.index_mut-block.result.now (c.requires.number, read, c.requires.inside c.index_mut-block.result.now read)
    c.of.result c.split_at.result.1.now c.split_at-2.result.0.now c.split_at-2.result.1.now c.split_at.ensures.back c.split_at-2.ensures.front c.split_at-2.ensures.back c.of.ensures.after
    c.args.standing c.requires.standing (c.of.ensures.count ∙ c.split_at-2.ensures.front_len) c.of.ensures.summary in
    record { count = grind (arith, common_steps); behind = done.blocks; standing = done.standing; by = done.by; front = done.front }

pub returns-then-last-before-clause-blocks : goal.returns-then-last-before-clause-blocks
returns-then-last-before-clause-blocks c = let so_far = c.loop-number.blocks.items in
    subst (λ (blocks : List Block). AreBlocks (entry_at c.args.basis.now.log.now) (next_in c.args.basis.now) c.args.basis.now.birth c.args.basis.now.birth blocks c.args.own.now) (take-append-drop c.loop-number.number so_far)
    (c.loop-number.invariant.front _ (subst (λ (by : ℕ). AreBlocks (entry_at c.args.basis.now.log.now) (next_in c.args.basis.now) c.args.basis.now.birth by (drop c.loop-number.number so_far) c.loop-number.rest.now) (sym c.if-last-before.true) c.loop-number.invariant.behind))

pub loop-number-preserved : goal.loop-number-preserved
loop-number-preserved c = grind (arith, common_steps, fold-cut, late_within, pass-after, pass-behind, pass-front)

pub returns-clause-blocks : goal.returns-clause-blocks
returns-clause-blocks c = c.extend.ensures.blocks c.args.own.now (subst (λ (blocks : List Block). IsFront (entry_at c.args.basis.now.log.now) (next_in c.args.basis.now) c.args.basis.now.birth blocks c.args.own.now c.loop-number.last c.loop-number.rest.now)
    (take_all c.loop-number.number c.loop-number.blocks.items (omega arith)) c.loop-number.invariant.front)

pub pass-last-requires : goal.pass-last-requires
pass-last-requires c = grind (arith, common_steps, late_within)

pub overflow_add-block : goal.overflow_add-block
overflow_add-block c = grind (arith, common_steps, late_within)

pub split_at-requires-in-loop-number : goal.split_at-requires-in-loop-number
split_at-requires-in-loop-number c = grind (arith, common_steps, late_within)

pub index_mut-block-requires-in-loop-number : goal.index_mut-block-requires-in-loop-number
index_mut-block-requires-in-loop-number c = grind (arith, common_steps, late_within)

pub returns-then-last-before-clause-by : goal.returns-then-last-before-clause-by
returns-then-last-before-clause-by c = grind (arith, common_steps, late_within)

pub split_at-requires-2 : goal.split_at-requires-2
split_at-requires-2 c = grind (arith, common_steps, late_within)
