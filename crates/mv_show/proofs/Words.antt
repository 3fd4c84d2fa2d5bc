-- The names of the library, of the definitions, and of the crates below that several files take, passed on from one place. Declares nothing.
pub use Rattle.indexmap.specs.IndexSet.{insert_all}
pub use Rattle.mv_engine.specs.Lines.{Line, line_at, pieces, whole_from}
pub use Rattle.mv_engine.specs.Replies.{AreReplies, GotNoReply, Readied, said, said_texts}
pub use Rattle.mv_format.proofs.CallerLemmas.{ordered, wholes_ascend}
pub use Rattle.mv_format.specs.KeyOrder.{IsOrdered}
pub use Rattle.mv_format.specs.Writing.{change_value, members_where, national_value}
pub use Rattle.mv_format.specs.declared.answered.Answered.{Answered}
pub use Rattle.mv_hub.specs.declared.entry.Entry.{Entry}
pub use Rattle.mv_json.specs.Keys.{ItemsKeysAscend, KeysAscend}
pub use Rattle.mv_lines.specs.Sessions.{IsTaken, Open}
pub use Rattle.mv_link.specs.declared.item.Item.{Item}
pub use Rattle.mv_link.specs.declared.item.Item.TheVariants.{Carried, Receipt}
pub use Rattle.mv_machine.proofs.CallerLemmas.{Change, IsSound, applied as applied_change, asked as asked_change, change-sound, dropped, drops, nothing, opening-sound, slice_get-behind, step-changes, submitted as submitted_change}
pub use Rattle.mv_machine.specs.State.{State, is_party, log_of, opening, site_of, submissions_of, wire_of, with_site}
pub use Rattle.mv_machine.specs.declared.reply.Reply.{Reply}
pub use Rattle.mv_machine.specs.declared.step.Step.{Step}
pub use Rattle.mv_message.specs.Kinds.{is_query_or_answer}
pub use Rattle.mv_message.specs.declared.message.Message.{Message}
pub use Rattle.mv_pack.specs.Keys.{pack_key}
pub use Rattle.mv_party.specs.Site.{SiteState, answer_number, entry_from, new_site}
pub use Rattle.mv_repository.specs.Verdict.{answer_after}
pub use Rattle.mv_repository.specs.declared.effect.Effect.{Effect}
pub use Rattle.mv_show.specs.EventValues.{applied_fields, event_value}
pub use Rattle.mv_show.specs.Events.{Event, applied, decided, event_of, event_of_step, last_of, routed, routing, verified}
pub use Rattle.mv_show.specs.Shown.{Row, RowsAreOrdered, lines_text, link_rows, party_rows, subject_rows}
pub use Rattle.mv_show.specs.Subjects.{is_same_subject, named_of}
pub use Rattle.mv_show.specs.Trail.{IsEvent, event_text}
pub use Rattle.mv_show.specs.TrailLaws.{AreTold, EventsAreOrdered, EventsAreWritten, LogsAreTold, RecordIsTold, SubmissionsAreTold, applied_told, entry_told, numbered, submission_told, unless_answer}
pub use Rattle.mv_show.specs.declared.subject.Subject.TheVariants.{Pack}
pub use Rattle.mv_show.specs.inside.Trail.{Says, Tells}
pub use Rattle.serde_json.specs.Data.{array, null, object}
pub use Rattle.std.proofs.Common.{Bool, Err, IfErr, IfOk, IfSome, IsTrue, List, None, Ok, Option, Result, Some, [], ap, append-nil, append_assoc, arith, false, flat_map, get_or, get_or-set_other, get_or-set_same, if◌then◌else◌, inl, inr, length, length-append, map, option_and_then, option_map, option_to_list, refl, rules, set, slice_get, subst, suc, sym, take, zero, ℕ, ◌++◌, ◌+◌, ◌-◌, ◌<◌, ◌==◌, ◌∙◌, ◌∷◌, ◌≡◌, ◌≢◌}
pub use Rattle.std.proofs.KnownBytes.{Appends-nil}
pub use Rattle.std.proofs.lemmas.Bool.Decides.{nat_tests}
pub use Rattle.std.proofs.lemmas.Grind.{common_steps, elements, flat_map-append}
pub use Rattle.std.proofs.lemmas.List.{length-map, map-append, set_past}
pub use Rattle.std.proofs.lemmas.List.Sums.{fold-append}
pub use Rattle.std.specs.Io.KnownBytes.{Consumes}
pub use Rattle.std.specs.List.{enumerate_from, filter_map, range_with_len}
pub use Rattle.std.specs.Prelude.{⊤}
