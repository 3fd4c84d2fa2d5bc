use Rattle.mv_hub.proofs.Words.{[], ◌∷◌, ◌∙◌, append-nil, err_from_is_err_and, rules, sym}
use Rattle.mv_hub.proofs.TrailLemmas.{linked-put}
use Rattle.mv_hub.proofs.trail.add_link.Goals as goal

-- what was read is put back
pub returns-in_err-push-clause-err : goal.returns-in_err-push-clause-err
returns-in_err-push-clause-err c =
    rw ((err_from_is_err_and c.from_residual.result c.from_residual.ensures.1).1)
    (λ other. linked-put c.args.links.now.entries _ c.args.before.now c.push.new.self [] (λ batch. search rules)
    (rw (← c.in-Some.ensures.value) (c.in_err-push.ensures.items ∙ sym (append-nil _))) other ∙ search rules)

-- a list was made
pub returns-clause-ok : goal.returns-clause-ok
returns-clause-ok c =
    linked-put c.args.links.now.entries c.insert.new.self.entries c.args.before.now c.in_ok-batches.batches (c.args.after.now ∷ [])
    (λ other. rw (c.get_mut.follows.holds-at-none, c.copy-3.ensures) at (c.in_ok-insert.ensures.updates.0 other))
    (rw (← c.in_default.ensures.value) (rw c.copy-2.ensures at c.in_ok-batches.ensures.items))
