-- The names of the library, of the definitions, and of the crates below that the proofs cite, passed on from one place. Declares nothing.
pub use Rattle.mv_party.specs.Words.{Item, LogEntry, Message, is_query_or_answer}
pub use Rattle.mv_party.specs.Calls.{answer_fault, ask_fault, submit_fault, unless_fault}
pub use Rattle.mv_party.specs.inside.Kept.{IsSite, site_of}
pub use Rattle.mv_party.specs.Site.{IsLawfulParty, SiteState, answers_in, count_from, entry_from}
pub use Rattle.mv_repository.specs.Verdict.{answer_after, answer_to, answers_from, answers_of}
pub use Rattle.std.proofs.Common.{Bool, List, None, Ok, Option, Some, [], ap, append-nil, append_assoc, arith, cond, eqb, false, get_or, length, length-append, length-set, option_to_list, refl, set, subst, sym, ℕ, ◌++◌, ◌+◌, ◌<◌, ◌∙◌, ◌∷◌, ◌≡◌, ◌≢◌, ◌≤◌}
