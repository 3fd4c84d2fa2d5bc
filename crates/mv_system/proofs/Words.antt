-- The names of the library, of the definitions, and of the crates below that the proofs cite, passed on from one place. Declares nothing.
pub use Rattle.mv_hub.specs.declared.entry.Entry.TheVariants.{Closed}
pub use Rattle.mv_hub.specs.Hub.{next_entry}
pub use Rattle.mv_link.specs.Frames.{IsFrameOf}
pub use Rattle.mv_link.specs.Receiving.{look_at}
pub use Rattle.mv_link.specs.declared.incoming.Look.{Look}
pub use Rattle.mv_link.specs.declared.item.Frame.{Frame}
pub use Rattle.mv_link.specs.declared.limits.TheConstants.{NUMBER_LIMIT}
pub use Rattle.mv_machine.proofs.CallerLemmas.{Change, change-follows, change-keeps, change-sound, closed, headline-same, headline_further, opening-keeps, opening-sound, routed, routed_count-few, runs-push, stamps_suffice, step-changes, submitted}
pub use Rattle.mv_machine.specs.Limits.{AreBounds, Bounds}
pub use Rattle.mv_machine.specs.Runs.{Runs}
unfoldable pub use Rattle.mv_machine.specs.Runs.{Allows, Meets}
unfoldable pub use Rattle.mv_machine.specs.Steps.{outcome}
pub use Rattle.mv_machine.specs.State.{State, is_party, is_uplink_full, opening, site_of, submissions_of, wire_of}
pub use Rattle.mv_machine.specs.Words.{routed_count, Entry, HubState, IsSquare, Item, Message, PARTIES_LIMIT, SiteState, are_parties, cell, count_from, is_open, items_on, new_hub, new_site, put, with_submission}
pub use Rattle.mv_machine.specs.declared.reply.Reply.{Reply}
pub use Rattle.mv_machine.specs.declared.reply.Reply.TheVariants.{Lost, Refused, Relayed, Repeated}
pub use Rattle.mv_machine.specs.declared.step.Step.{Step}
pub use Rattle.mv_machine.specs.declared.step.Step.TheVariants.{Apply, Lose, Relay, Repeat}
pub use Rattle.mv_message.specs.declared.message.Message.TheVariants.{Query}
pub use Rattle.mv_pairs.proofs.CallerLemmas.{cell-map, put-map, square-put, table-all}
pub use Rattle.mv_party.proofs.CallerLemmas.{no_answer, submit-free}
pub use Rattle.mv_party.specs.Calls.{apply_fault, ask_fault}
pub use Rattle.mv_party.specs.Site.{answers_in}
pub use Rattle.mv_party.specs.declared.fault.SiteFault.{SiteFault}
pub use Rattle.mv_party.specs.declared.fault.SiteFault.TheVariants.{Memory as SiteMemory}
pub use Rattle.mv_system.specs.inside.World.{AreWiresOf, IsSystem, IsWireOf, WireState, new_wire, numbers_of, numbers_on, state_of, wire_at}
pub use Rattle.std.proofs.Common.{Bool, Err, IsTrue, List, None, Option, Some, [], ap, arith, drop, false, get_or, length, length-append, ltb-true, map, nat_le, option_map, refl, rules, set, slice_get, sym, take, true, unwrap_or, vec_capacity, vec_len, ℕ, ◌++◌, ◌+◌, ◌-◌, ◌<◌, ◌∙◌, ◌∷◌, ◌≡◌, ◌≤◌}
pub use Rattle.std.proofs.lemmas.Bool.{and_parts}
pub use Rattle.std.proofs.lemmas.Bool.Decides.{nat_tests}
pub use Rattle.std.proofs.lemmas.List.{get_or_read, length-map, map-append, set-get_or, take_more}
pub use Rattle.std.proofs.lemmas.List.Elements.{All-drop, All-push}
pub use Rattle.std.proofs.lemmas.List.FromFn.{map-range_with_len_more}
pub use Rattle.std.specs.List.{All, drop-map, range_with_len}
pub use Rattle.std.specs.Option.{option_copied}
