-- Each place is that of the first of its kind.
use Rattle.mv_repository.proofs.Lemmas.{◌≡◌, List, LogEntry, ap, sym, subst, ◌∙◌, AreAt, AreStopsOf, history_of, pack_state, rules, kept_of, life_of, history-at, lent-places}
use Rattle.mv_repository.proofs.repository.Repository.history.Goals as goal

pub returns : goal.returns
returns c = let log = c.as_slice.result.now in
    let view : c.self.inside.log.items ≡ c.args.self.now.log = (λ i. (c.self.view_is i).log) in
    let same : c.args.self.now.log ≡ log = sym (c.as_slice.ensures.value ∙ view) in
    lent-places log c.args.key.now c.self.inside.tables.stops _ _ _ c.pack.result _ _
    (subst (λ (log : List LogEntry). AreStopsOf log c.self.inside.tables.stops) (sym c.as_slice.ensures.value) c.self.invariant.0.stops)
    (c.kept-upload.ensures ∙ ap (λ (log : List LogEntry). kept_of (life_of c.args.key.now log)) same) (c.pack.ensures ∙ ap (pack_state c.args.key.now) same) (search rules) (search rules)
    ∙ ap (history_of c.args.key.now) (sym same)

pub invariant_of-result : goal.invariant_of-result
invariant_of-result c = let view : c.self.inside.log.items ≡ c.args.self.now.log = (λ i. (c.self.view_is i).log) in
    let same : c.args.self.now.log ≡ c.as_slice.result.now = sym (c.as_slice.ensures.value ∙ view) in
    subst (AreAt c.as_slice.result.now) (sym (returns c ∙ ap (history_of c.args.key.now) same)) (history-at c.as_slice.result.now c.args.key.now)
