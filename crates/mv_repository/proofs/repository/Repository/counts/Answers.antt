-- Each table has the things of its kind once.
use Rattle.mv_repository.proofs.Lemmas.{◌≡◌, ◌∙◌, rules, length, count-products, count-recalled}
use Rattle.mv_repository.proofs.repository.Repository.counts.Goals as goal

pub returns : goal.returns
returns c = let log = c.self.inside.log.items in
    let tables = c.self.invariant.0 in
    let entries : c.len.result ≡ length log = search rules in
    let products = c.len-2.ensures.len ∙ count-products log c.self.inside.tables.masters.entries c.len-2.ensures.unique tables.masters in
    let recalled = c.len-3.ensures.len ∙ count-recalled log c.self.inside.tables.stops c.len-3.ensures.unique tables.stops in
    rw (← c.self.view_is) (λ i. record { entries = entries i; products = products i; packs = (c.count-packs.ensures log tables i).0; active = (c.count-packs.ensures log tables i).1; recalled = recalled i })
