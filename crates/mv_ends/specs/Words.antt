-- The names of the library and of the crates below that several files take, passed on from one place. Declares nothing.
pub use Rattle.mv_hub.specs.Hub.{HubState, are_parties, close_fault, items_on, new_hub, relay_fault, repeat_fault, route_fault, sent_of, with_closed, with_relayed, with_routed}
pub use Rattle.mv_hub.specs.Record.{is_open, routed_count, routed_from}
pub use Rattle.mv_hub.specs.declared.entry.Entry.{Entry}
pub use Rattle.mv_link.specs.Frames.{IsFrameOf, accepted}
pub use Rattle.mv_link.specs.declared.incoming.Look.{Look}
pub use Rattle.mv_link.specs.declared.item.Frame.{Frame}
pub use Rattle.mv_machine.specs.Lawful.{Fits, IsLawful, IsLawfulAt, IsLawfulRecord, IsWellFormed}
pub use Rattle.mv_machine.specs.Limits.{Bounds}
pub use Rattle.mv_machine.specs.Replies.{hub_refusal_of, refusal_of, reply_to, route_refusal_of}
pub use Rattle.mv_machine.specs.State.{State, is_party, log_of, opened_site, opening, site_of, submissions_of}
pub use Rattle.mv_machine.specs.declared.reply.Refusal.{Refusal}
pub use Rattle.mv_machine.specs.declared.reply.Refusal.TheVariants.{Memory, Party, UplinkEmpty, WireEmpty, WireFull}
pub use Rattle.mv_machine.specs.declared.reply.Reply.{Reply}
pub use Rattle.mv_machine.specs.declared.reply.Reply.TheVariants.{Asked, Closed, Known, Refused, Relayed, Repeated, Routed, Submitted}
pub use Rattle.mv_message.specs.declared.message.Message.{Message}
pub use Rattle.mv_pairs.specs.Pairs.{IsSquare, cell, put}
pub use Rattle.mv_party.specs.Site.{IsLawfulParty, SiteState, count_from, new_site, with_submission}
pub use Rattle.mv_repository.specs.Repository.{items_from}
pub use Rattle.mv_repository.specs.declared.entry.LogEntry.{LogEntry}
pub use Rattle.rtrb.specs.Ring.{IsPair, consumer_capacity, known_free, known_items, producer_capacity, received, sent}
pub use Rattle.rtrb.specs.declared.AnyItems.{AnyItems}
pub use Rattle.std.specs.List.{All}
pub use Rattle.std.specs.Option.{option_map_or}
pub use Rattle.std.specs.declared.alloc.Global.{Global}
pub use Rattle.std.specs.declared.vec.Vec.{Vec}
pub use denote.RawPtr.{Ptr}
pub use mathlib.Core.List.{IsPrefix}
