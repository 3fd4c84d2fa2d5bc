-- What the proofs of other crates cite of one party. No other file of this folder is cited elsewhere.
pub use Rattle.mv_party.proofs.AnswerLemmas.{answers_in-append, no_answer, items_from-push, party-applied, party-submitted, submit-free}
