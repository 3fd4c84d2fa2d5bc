use Rattle.mv_repository.proofs.Words.{Inquiry, None, false, inquiry_after, refl, rules, sym, unwrap_or, waits_after, ◌∙◌}
use Rattle.mv_repository.proofs.InquiriesLemmas.{known_stays, query_noted}
use Rattle.mv_repository.proofs.inquiries.Inquiries.note.Goals as goal

-- the item tells of no query of the party
pub returns-in_default : goal.returns-in_default
returns-in_default c log = search (rules, known_stays)

-- the item tells of one
pub returns : goal.returns
returns c log = let unknown : Inquiry = record { asked = None; waiting = c.all.result; active = false; explained = false } in
    let before = c.or_insert.ensures.value ∙ (λ i. unwrap_or (c.in-Ok.ensures.value i) unknown) in
    query_noted c.args.party log c.args.sender c.args.item.now c.in-Some.query c.args.self.now _ unknown c.note.new.self (sym c.query_of.ensures ∙ c.in-Some.is) refl c.all.ensures
    (c.note.ensures.told ∙ (λ i. record (inquiry_after c.args.item.now (before i)) { waiting = c.note.new.self.waiting }))
    (λ other lt. c.note.ensures.waiting other lt ∙ (λ i. waits_after c.args.sender c.args.item.now (before i).waiting other)) (λ q. search rules)
