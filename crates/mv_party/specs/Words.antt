-- The names of the library, and of the crates below that the definitions cite, passed on from one place. Declares nothing.
pub use Rattle.mv_link.specs.declared.item.Item.{Item}
pub use Rattle.mv_message.specs.Kinds.{is_query_or_answer}
pub use Rattle.mv_message.specs.declared.message.Message.{Message}
pub use Rattle.mv_message.specs.declared.message.Message.TheVariants.{Answer, Query}
pub use Rattle.mv_party.specs.declared.limits.TheConstants.{SUBMISSIONS_LIMIT}
pub use Rattle.mv_repository.specs.Repository.{RepositoryState, items_from}
pub use Rattle.mv_repository.specs.Verdict.{answer_after, answer_to, answers_of}
pub use Rattle.mv_repository.specs.declared.entry.LogEntry.{LogEntry}
