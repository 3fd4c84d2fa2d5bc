-- The names of the library, of the definitions, and of the crates below that the proofs cite, passed on from one place. Declares nothing.
pub use Rattle.mv_hub.proofs.CallerLemmas.{gained_other, link_items-push, routed_from-append}
pub use Rattle.mv_hub.specs.Hub.{next_entry}
unfoldable pub use Rattle.mv_hub.specs.Hub.{busy_party, is_busy, route_fault}
pub use Rattle.mv_hub.specs.Links.{link_items_after}
unfoldable pub use Rattle.mv_hub.specs.Links.{gained, link_items}
unfoldable pub use Rattle.mv_hub.specs.Targets.{is_reached}
pub use Rattle.mv_hub.specs.declared.entry.Entry.TheVariants.{Closed, Routed}
pub use Rattle.mv_link.proofs.CallerLemmas.{find-none_at, next-number}
pub use Rattle.mv_link.specs.declared.item.Item.TheVariants.{Carried, Receipt}
pub use Rattle.mv_machine.specs.Headline.{AppliedIsSubmitted, Follows, HeadlineHolds, IsRoutedAt, NumbersRise, is_carried}
pub use Rattle.mv_machine.specs.Lawful.{Fits, IsLawful, IsLawfulAt, IsLawfulRecord, IsWellFormed}
pub use Rattle.mv_machine.specs.Laws.{ClosedLinksStayClosed, InRuns, InSteps, NumbersSuffice, StampsSuffice}
pub use Rattle.mv_machine.specs.Limits.{Bounds}
pub use Rattle.mv_machine.specs.Runs.{Runs}
unfoldable pub use Rattle.mv_machine.specs.Runs.{Allows, Meets}
pub use Rattle.mv_machine.specs.State.{State, applied_count, is_party, is_uplink_full, log_of, opened_site, opening, site_of, submissions_of, wire_of, with_site, with_wire}
pub use Rattle.mv_machine.specs.Words.{Entry, IsPrefix, Item, LogEntry, Message, Reply, SiteState, Step, answer_number, entry_from, is_open, is_query, items_from, items_on, new_hub, new_site, number_of, reach, routed_count, routed_from, sent_of, with_applied, with_closed, with_relayed, with_routed, with_submission}
pub use Rattle.mv_machine.specs.declared.step.Step.TheVariants.{Apply, Close, Relay, Repeat, Route, Submit, Verify}
pub use Rattle.mv_message.specs.declared.message.Message.TheVariants.{Query}
pub use Rattle.mv_pairs.proofs.CallerLemmas.{put-each, put-each_pair, square-put, square-replicate}
pub use Rattle.mv_party.proofs.CallerLemmas.{items_from-push, no_answer, party-applied, party-submitted, submit-free}
pub use Rattle.mv_party.specs.Calls.{apply_fault, ask_fault}
pub use Rattle.mv_party.specs.Site.{answers_in}
pub use Rattle.mv_repository.specs.Verdict.{answer_to}
pub use Rattle.std.proofs.Common.{All, Bool, IsTrue, List, None, Option, Some, [], ap, append-nil, append_assoc, arith, cond, drop, eqb, false, filter, get_or, length, length-append, map, not, refl, slice_get, subst, suc, sym, take, true, zero, ℕ, ◌*◌, ◌++◌, ◌+◌, ◌-◌, ◌<◌, ◌∙◌, ◌∷◌, ◌≡◌, ◌≤◌}
pub use Rattle.std.proofs.Math.Seq.{take-append_seam}
pub use Rattle.std.proofs.lemmas.Bool.{le-ltb}
pub use Rattle.std.proofs.lemmas.Bool.Decides.{Decides-eqb, nat_tests}
pub use Rattle.std.proofs.lemmas.Grind.{common_steps, elements}
pub use Rattle.std.proofs.lemmas.List.{get_or-replicate, length-map, take-append-drop}
pub use Rattle.std.proofs.lemmas.List.Elements.{All-cons, All-nil, All-tail, All-take}
pub use Rattle.std.proofs.lemmas.List.FromFn.{get_or-map-range_with_len, length-range_with_len}
pub use Rattle.std.proofs.lemmas.Option.{gets, option_and_then_some, slice_get-get_or}
pub use Rattle.std.specs.List.{IsDistinct}
