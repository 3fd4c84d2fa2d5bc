-- The names of the library, of the definitions, and of the crates below that several files take, passed on from one place. Declares nothing.
pub use Rattle.mv_ends.specs.HubEnd.{HubSeat, IsOpened, IsUnchanged, Routes, SameHubEnd, hub_seat}
pub use Rattle.mv_ends.specs.RepoEnd.{Applies, IsRepoOpened, IsRepoUnchanged, RepoSeat, SameRepoEnd, Submits, TakesFrame, repo_seat, stands_to}
pub use Rattle.mv_ends.specs.Report.{head_line, is_closing}
unfoldable pub use Rattle.mv_ends.specs.Report.{in_ten_places, party_line, report_text}
pub use Rattle.mv_ends.specs.Rings.{Inflow, IsFront, KeepsOthers, Outlet, Ring, is_full, ring_put, with_frame, with_item}
pub use Rattle.mv_ends.specs.Whole.{AreEnds, IsSeatOf, sites_of, state_of}
pub use Rattle.mv_ends.specs.Words.{Bounds, Entry, Frame, Global, HubState, IsFrameOf, IsLawful, IsLawfulAt, IsLawfulRecord, IsPair, IsPrefix, IsSquare, IsWellFormed, LogEntry, Look, Memory, Message, Refusal, Refused, Reply, SiteState, State, Submitted, Vec, accepted, cell, close_fault, consumer_capacity, is_open, is_party, items_from, items_on, known_free, known_items, new_hub, new_site, opened_site, opening, option_map_or, producer_capacity, received, refusal_of, reply_to, route_refusal_of, routed_count, sent, site_of}
pub use Rattle.mv_ends.specs.declared.hub_end.HubEnd.{HubEnd}
pub use Rattle.mv_ends.specs.declared.repo_end.RepoEnd.{RepoEnd}
pub use Rattle.mv_ends.specs.inside.Fronts.{IsFrontOf}
pub use Rattle.mv_ends.specs.inside.Rings.{AreEmpty, AreLinks, Inlet, each_row, inflow_of, ring_taken, table_of, taken_by, waits_at}
pub use Rattle.mv_ends.specs.inside.Taking.{IsPassedAs, IsTakenAs}
pub use Rattle.mv_ends.specs.inside.Valid.{AreAccepted, AreOfLinks, AreWithin, TookAll}
pub use Rattle.mv_ends.specs.inside.Whole.{AreOpened, IsOutcome, opened_seat}
unfoldable pub use Rattle.mv_hub.specs.Hub.{route_fault}
pub use Rattle.mv_link.proofs.CallerLemmas.{accepted_front, one_more, range-append}
pub use Rattle.mv_link.specs.Fault.{FailsBy}
pub use Rattle.mv_link.specs.declared.item.Item.{Item}
pub use Rattle.mv_machine.proofs.CallerLemmas.{All-front, headline, opening-sound, record-entered, slice_get-append, stamps_suffice}
pub use Rattle.mv_machine.specs.Headline.{HeadlineHolds}
pub use Rattle.mv_pairs.proofs.CallerLemmas.{put-each_pair, square-put, square-replicate}
pub use Rattle.mv_party.specs.Calls.{answer_fault, apply_fault, with_taken}
pub use Rattle.mv_party.specs.declared.taken.Taken.{Taken}
pub use Rattle.mv_repository.specs.Verdict.{answer_after}
pub use Rattle.std.proofs.Common.{All, Bool, Err, IfOk, IsTrue, List, None, OnOk, Option, Result, Some, [], ap, append-nil, append_assoc, arith, codes, decimal, drop, eqb, false, filter, flat_map, get_or, inl, inr, is_some, length, length-append, ltb-true, map, option_to_list, refl, replicate, rules, set, slice_index_or, string_bytes, subst, suc, sym, take-append-drop, true, vec_capacity, vec_items, zero, ℕ, ◌++◌, ◌+◌, ◌-◌, ◌<◌, ◌^◌, ◌∙◌, ◌∷◌, ◌≡◌, ◌≤◌}
pub use Rattle.std.proofs.Math.Seq.{drop-append_seam, drop-length, map-set_same, take-append_seam, take-length}
pub use Rattle.std.proofs.lemmas.Bool.{cases_lt, eq-eqb}
pub use Rattle.std.proofs.lemmas.Bool.Decides.{nat_tests}
pub use Rattle.std.proofs.lemmas.Grind.{common_steps}
pub use Rattle.std.proofs.lemmas.List.{flat_map_more, get_or-map, get_or-set_other, get_or-set_same, length-map, length-set, map-append, map-set}
pub use Rattle.std.specs.List.{range_with_len, repeat}
