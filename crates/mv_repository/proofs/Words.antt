-- The names of the library and of the crates below that proofs cite, passed on from one place. Declares nothing.
pub use Rattle.indexmap.proofs.MapLemmas.{absent_from_lookup, insert_entry-absent}
pub use Rattle.indexmap.proofs.SetLemmas.{keys_insert_entry}
pub use Rattle.indexmap.specs.IndexMap.{insert_entry}
pub use Rattle.mv_link.specs.PartySets.{has_party}
pub use Rattle.mv_pack.specs.Expiry.{CivilDate}
pub use Rattle.mv_pack.specs.Keys.{batch_key, is_same_batch, is_same_pack, pack_key}
pub use Rattle.mv_pack.specs.declared.key.BatchKey.{BatchKey}
pub use Rattle.mv_pack.specs.declared.key.PackKey.{PackKey}
pub use Rattle.mv_repository.specs.Agreement.{AgreeOn, HasDistinctStamps, HaveSameAbout, HaveSameEntries, HaveSameHistory, PackHistory, Sent, SentHistory, SentStatus, about, batch_in, bears_on, history_of, is_batch_recalled, sent_in, sent_of, sent_status, unplaced}
pub use Rattle.mv_repository.specs.Bearing.{FirstStops, entry_at, first_stops, first_upload, is_before, is_status_of, is_upload_of, message_in, no_entry, pack_changed, pack_grown, pack_made_by, pack_step, standing_at, statuses_of, withdrawn_in}
pub use Rattle.mv_repository.specs.Order.{Ascends, IsOrderOf, Placed, ordered, passes, put_in, stands_before}
pub use Rattle.mv_repository.specs.Pack.{ChangeNamesStatus, KnownPack, NamesStatus, batch_standing, change_effect, effect_after, effect_of, entries_before, has_pack, held_of, is_active, is_done, is_recall_of, is_recalled_by, is_withdrawal_of, is_withdrawn_by, known_pack, known_pack_from, lasting_effect, pack_after_item, pack_state}
pub use Rattle.mv_repository.specs.Repository.{counts_of, items_from, mastered_in, product_of, product_under, recalled_in, serials_in, serials_of, uploaded_in, uploaded_packs}
pub use Rattle.mv_repository.specs.Verdict.{asked_parties, finding_in, has_answered, joint_verdict, query_reach, verdict_when, has_finding}
pub use Rattle.mv_repository.specs.Words.{BatchStanding, Block, Carried, Decided, Effect, Held, Item, LogEntry, Made, Master, Message, Own, PARTIES_LIMIT, PartySet, Pending, Product, Recall, Receipt, Slot, Standing, Status, Stop, Stops, Upload, Withdraw, bytes_eq, insert_all, insert_key, keys_of, lookup, option_and_then, option_map, option_map_or, option_or, slice_get, unwrap_or, Found}
pub use Rattle.mv_repository.specs.declared.blocks.Cut.{Cut}
pub use Rattle.mv_repository.specs.declared.blocks.TheConstants.{BLOCK}
pub use Rattle.mv_repository.specs.declared.history.Places.{Places}
pub use Rattle.mv_repository.specs.declared.inquiries.Inquiries.{Inquiries}
pub use Rattle.mv_repository.specs.declared.inquiries.Inquiry.{Inquiry}
pub use Rattle.mv_repository.specs.declared.tables.Tables.{Tables}
pub use Rattle.mv_repository.specs.inside.Shelf.{AreShelfOf, AreSlots, IsEntered, IsNamed, IsOfProduct, IsSpot, IsWritten, SlotTable, Writes, keyed, no_slot, serial_hash, serial_of, serials_uploaded, IsAgain, IsChanged, IsPackOf, IsPut, IsRefreshed, IsShelfOf, ListingTable, ShelfParts, ShelfTable, is_listed, kept_by, kept_in, listing_of, lists, may_stop, no_shelf, nothing_kept, shelf_by, shelf_of}
pub use Rattle.mv_repository.specs.inside.Tables.{AreTablesOf, IsInquiriesOf, inquiry_after, is_master, query_of, IsInquiryOf, waits_after}
pub use Rattle.mv_repository.specs.inside.Track.{AreAt, AreBlocks, AreFirstsOf, AreStopsOf, IsCovered, IsCut, IsFront, IsKept, IsSummary, IsTrack, Kept, Life, change_in, comes_first, effect_from, effect_in, effect_on, history_at, is_stop, known_at, life_of, made_batch, next_by, next_in, next_place, place_of, stopped_product, stops_in, kept_of, without, standing_of}
pub use Rattle.std.proofs.Common.{Bool, IfSome, List, None, OnErr, OnOk, Option, Result, Some, [], ap, append-nil, append_assoc, arith, cond, drop, false, filter, find, fold, get_or, get_or-set_other, inl, inr, insert, is_some, length, length-append, map, min, nat_eq, nat_lt, not, refl, rules, set, subst, suc, sym, take, true, true≢false, zero, ℕ, ◌∙◌, is_ok, Err, Ok, ◌/◌}
pub use Rattle.std.proofs.Math.Bool.{or-false, or-true}
pub use Rattle.std.proofs.Math.ListN.{drop_of_length-le, length-set}
pub use Rattle.std.proofs.Math.Seq.{take-add}
pub use Rattle.std.proofs.lemmas.Bool.{cond_both}
pub use Rattle.std.proofs.lemmas.Bool.Decides.{nat_tests}
pub use Rattle.std.proofs.lemmas.Grind.{common_steps, elements, flat_map-append}
pub use Rattle.std.proofs.lemmas.List.{at_drop_more, drop-append-le, drop-drop, drop-map, drop_at, get_or-map, get_or-set_same, get_or-take, get_or_append_left, get_or_default, get_or_push, length-drop, length-map, length-take-le, map-append, set-get_or, take-append-drop, take-append-le, take-map, take_all, take_at, take_more, take_more_set}
pub use Rattle.std.proofs.lemmas.List.Edits.{get_or-insert_at}
pub use Rattle.std.proofs.lemmas.List.Elements.{All-contains, All-contains_itself, All-filter, All-from_recursion, All-weaker, filter-append, filter_map-append, recursion_from_All}
pub use Rattle.std.proofs.lemmas.List.Folds.{list_any-append, list_any_more}
pub use Rattle.std.proofs.lemmas.List.Sorted.{All-permutation, IsPermutation-cons, IsPermutation-middle, IsPermutation-refl, IsPermutation-sym, IsPermutation-to_front, IsPermutation-trans, list_any-IsPermutation}
pub use Rattle.std.proofs.lemmas.List.Sums.{count_by-le-length, fold-append, length-filter}
pub use Rattle.std.proofs.lemmas.Map.Entries.{length-keys_of, lookup-filter-values, option_filter}
pub use Rattle.std.proofs.lemmas.Map.Keys.{IsDistinct-IsPermutation, IsDistinct-head, IsDistinct-push, IsDistinct-tail}
pub use Rattle.std.proofs.lemmas.Map.Made.{IsDistinct-keys_filter, distinct_count-le, is_member-filter, is_some-lookup, length-from_keys}
pub use Rattle.std.proofs.lemmas.Option.{get_or_from_slice_get, gets, slice_get-get_or, slice_get_within}
pub use Rattle.std.specs.Cmp.{IsEquivalence}
pub use Rattle.std.specs.Cmp.Lexicographic.{nat_list_eq_equiv, same_text}
pub use Rattle.std.specs.List.{AllByRecursion, AllPairs, Contains, cons_option, filter_map, flat_map, last_or, list_any}
unfoldable pub use Rattle.std.specs.List.{IsDistinct}
pub use Rattle.std.specs.List.Sorted.{IsPartitionPoint, IsPartitionedBy, IsPermutation}
pub use Rattle.std.specs.Prelude.{◌%◌, ◌&&◌, ◌*◌, ◌++◌, ◌+◌, ◌-◌, ◌<◌, ◌==◌, ◌^◌, ◌||◌, ◌↔◌, ◌∷◌, ◌≡◌, ◌≤◌, ◌⊎◌}
pub use Rattle.std.specs.Set.{distinct_count, is_member}
