-- A status that is the last changes no block.
use Rattle.mv_repository.proofs.Lemmas.{◌∙◌, ◌+◌, ◌-◌, ◌≡◌, List, fold, length, take, ℕ, ap, arith, common_steps, get_or, without, effect_in, entry_at, next_in, refl, last-blocks, late-before, late-fold, late-front, elements}
use Rattle.mv_repository.proofs.blocks.put_late.Goals as goal

pub returns-then-at-own-clause-blocks : goal.returns-then-at-own-clause-blocks
returns-then-at-own-clause-blocks c = grind (arith, common_steps, last-blocks)

last-without : (own : List ℕ) (at : ℕ) → at + 1 ≡ length own → without own at ≡ take at own
last-without own at e = grind (arith, elements)

pub returns-then-at-own-clause-effect : goal.returns-then-at-own-clause-effect
returns-then-at-own-clause-effect c =
    let before = c.requires.standing ∙ ap (fold (next_in c.args.basis.now) c.args.basis.now.birth) (last-without c.args.own.now c.args.at (omega arith)) in
    c.next.ensures.effect ∙ ap (λ (n : ℕ). effect_in c.args.basis.now n (get_or c.args.own.now c.args.at 0)) before

pub returns-then-index-lt-FULL-clause-effect : goal.returns-then-index-lt-FULL-clause-effect
returns-then-index-lt-FULL-clause-effect c = let cut = c.cut_at-cut.ensures.cut (without c.args.own.now c.args.at) c.requires.blocks in
    let before = c.after-before.ensures ∙ (λ i. fold (next_in c.args.basis.now) c.cut_at-cut.result.by (take (c.args.at - c.cut_at-cut.result.start) (c.split_at.ensures.back i)))
    ∙ late-before (entry_at c.args.basis.now.log.now) (next_in c.args.basis.now) c.args.basis.now.birth (λ n. refl) c.args.blocks.now.items c.args.own.now c.args.at c.cut_at-cut.result c.requires.within c.cut_at-cut.ensures.at cut in
    c.next-effect.ensures.effect ∙ ap (λ (n : ℕ). effect_in c.args.basis.now n (get_or c.args.own.now c.args.at 0)) before

pub returns : goal.returns
returns c = let cut = c.cut_at-cut.ensures.cut (without c.args.own.now c.args.at) c.requires.blocks in
    let before = c.after-before.ensures ∙ (λ i. fold (next_in c.args.basis.now) c.cut_at-cut.result.by (take (c.args.at - c.cut_at-cut.result.start) (c.split_at.ensures.back i)))
    ∙ late-before (entry_at c.args.basis.now.log.now) (next_in c.args.basis.now) c.args.basis.now.birth (λ n. refl) c.args.blocks.now.items c.args.own.now c.args.at c.cut_at-cut.result c.requires.within c.cut_at-cut.ensures.at cut in
    record {
      effect = c.next-effect.ensures.effect ∙ ap (λ (n : ℕ). effect_in c.args.basis.now n (get_or c.args.own.now c.args.at 0)) before;
      blocks = c.extend.ensures.blocks c.args.own.now (rw (c.truncate.ensures.items, c.split_at.ensures.back)
          (late-front (entry_at c.args.basis.now.log.now) (next_in c.args.basis.now) c.args.basis.now.birth (λ n. refl) c.args.blocks.now.items c.args.own.now c.args.at c.cut_at-cut.result c.requires.within c.cut_at-cut.ensures.at cut));
      by = c.extend.ensures.by ∙ ap (fold (next_in c.args.basis.now) c.cut_at-cut.result.by) c.split_at.ensures.back
          ∙ late-fold (entry_at c.args.basis.now.log.now) (next_in c.args.basis.now) c.args.basis.now.birth (λ n. refl) c.args.blocks.now.items c.args.own.now c.args.at c.cut_at-cut.result c.requires.within c.cut_at-cut.ensures.at cut;
    }

pub returns-then-at-own-clause-by : goal.returns-then-at-own-clause-by
returns-then-at-own-clause-by c = grind (arith, common_steps)

pub pass_on-requires : goal.pass_on-requires
pass_on-requires c = record { within = c.requires.within; number = omega arith; at = c.cut_at-cut.ensures.at; inside = c.cut_at-cut.ensures.inside (omega arith); cut = c.cut_at-cut.ensures.cut (without c.args.own.now c.args.at) c.requires.blocks; standing = c.requires.standing }
