-- The names of the library, of the definitions, and of the crates below that several files take, passed on from one place. Declares nothing.
pub use Rattle.mv_ends.specs.HubEnd.{Relays, Routes, SameHubEnd}
pub use Rattle.mv_ends.specs.Laws.{AreSameRepos}
pub use Rattle.mv_ends.specs.RepoEnd.{Applies, Asks, Submits}
pub use Rattle.mv_ends.specs.Whole.{AreEnds, KeepsSubmissions, sites_of, state_of}
pub use Rattle.mv_ends.specs.declared.hub_end.HubEnd.{HubEnd}
pub use Rattle.mv_ends.specs.declared.repo_end.RepoEnd.{RepoEnd}
pub use Rattle.mv_hub.specs.Links.{link_items}
pub use Rattle.mv_hub.specs.Record.{routed_from}
pub use Rattle.mv_link.specs.declared.item.Item.{Item}
pub use Rattle.mv_machine.specs.Lawful.{IsLawful}
pub use Rattle.mv_machine.specs.State.{State, log_of, opening, site_of, submissions_of}
pub use Rattle.mv_message.specs.declared.message.Message.{Message}
pub use Rattle.mv_message.specs.declared.message.Message.TheVariants.{Query}
pub use Rattle.mv_party.specs.Site.{answers_in, new_site}
pub use Rattle.mv_repository.specs.Repository.{items_from}
pub use Rattle.mv_repository.specs.declared.entry.LogEntry.{LogEntry}
pub use Rattle.mv_workers.specs.Plans.{IsBegun, IsCarried, IsComplete, IsSound, KeepsPlan}
pub use Rattle.mv_workers.specs.Work.{is_answer, lists_of, own_among}
pub use Rattle.mv_workers.specs.declared.desk.Desk.{Desk}
pub use Rattle.mv_workers.specs.inside.Crews.{AreBegun, Handle, HasTurns, IsBack, IsCrewOf, end_of, work_of}
pub use Rattle.mv_workers.specs.inside.Desks.{AllUnused, IsFurther, IsLaterHub, IsUnused, own_of}
pub use Rattle.std.proofs.Common.{Bool, IsFalse, IsTrue, List, [], ap, append-nil, append_assoc, arith, false, get_or, length, length-append, ltb-true, map, option_to_list, refl, rules, subst, sym, vec_len, ℕ, ◌&&◌, ◌++◌, ◌+◌, ◌<◌, ◌==◌, ◌↔◌, ◌∙◌, ◌∷◌, ◌≡◌, ◌≤◌}
pub use Rattle.std.proofs.lemmas.Bool.{cases_lt}
pub use Rattle.std.proofs.lemmas.Bool.Decides.{nat_tests}
pub use Rattle.std.proofs.lemmas.Grind.{common_steps}
pub use Rattle.std.proofs.lemmas.List.{ext_get_or, get_or-map, length-map, map-append, nil_from_length, same_from_push}
pub use Rattle.std.proofs.lemmas.List.Elements.{All-append, All-cons, All-head, All-nil, All-tail, AllZip-get_or, filter-append}
pub use Rattle.std.specs.List.{All, list_any}
pub use Rattle.std.specs.Vec.{vec_capacity}
pub use Rattle.std.specs.Vec.Iter.{into_iter_items, into_iter_len}
pub use mathlib.Core.List.{IsPrefix}
