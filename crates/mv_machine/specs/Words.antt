-- The names of the library, and of the crates below that the definitions cite, passed on from one place. Declares nothing.
pub use Rattle.mv_hub.specs.Hub.{HubState, are_parties, close_fault, is_busy, items_on, new_hub, next_items, relay_fault, repeat_fault, route_fault, sent_of, with_closed, with_relayed, with_routed}
pub use Rattle.mv_hub.specs.Record.{is_open, routed_count, routed_from}
pub use Rattle.mv_hub.specs.Targets.{is_query, is_reached, reach}
pub use Rattle.mv_hub.specs.declared.entry.Entry.{Entry}
pub use Rattle.mv_link.specs.Frames.{number_of}
pub use Rattle.mv_link.specs.declared.item.Item.{Item}
pub use Rattle.mv_link.specs.declared.limits.TheConstants.{PARTIES_LIMIT, WINDOW_LEAST, WINDOW_LIMIT}
pub use Rattle.mv_machine.specs.declared.reply.Refusal.{Refusal}
pub use Rattle.mv_machine.specs.declared.reply.Refusal.TheVariants.{AlreadyClosed, AnswerBusy, Busy, Gone, Memory, NotSent, NotYours, Nothing, Party, SenderFull, UplinkEmpty, UplinkFull, WireEmpty, WireFull}
pub use Rattle.mv_machine.specs.declared.reply.Reply.{Reply}
pub use Rattle.mv_machine.specs.declared.reply.Reply.TheVariants.{Applied, Asked, Closed, Gap, Joint, Joint as JointVerdict, Known, Lost, Old, Refused, Relayed, Repeated, Routed, Submitted}
pub use Rattle.mv_machine.specs.declared.step.Step.{Step}
pub use Rattle.mv_message.specs.declared.message.Message.{Message}
pub use Rattle.mv_pack.specs.declared.key.PackKey.{PackKey}
pub use Rattle.mv_pairs.specs.Pairs.{IsSquare, cell, put}
pub use Rattle.mv_party.specs.Site.{IsLawfulParty, SiteState, answer_number, count_from, entry_from, new_site, with_applied, with_submission}
pub use Rattle.mv_party.specs.declared.limits.TheConstants.{SUBMISSIONS_LIMIT}
pub use Rattle.mv_repository.specs.Repository.{items_from}
pub use Rattle.mv_repository.specs.declared.entry.LogEntry.{LogEntry}
pub use mathlib.Core.List.{IsPrefix}
