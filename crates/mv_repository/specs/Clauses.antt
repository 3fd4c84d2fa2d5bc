-- The names that the clauses of this crate cite, passed on from one place. Declares nothing.
pub use Rattle.mv_repository.specs.Agreement.{AgreeOn, HasDistinctStamps, HaveSameAbout, HaveSameEntries, HaveSameHistory, about, as_sent, history_of, sent_of, sent_status, PackHistory}
pub use Rattle.mv_repository.specs.inside.Track.{IsAt, history_at, change_in, effect_in, newest_effect, next_in, AreBlocks, IsCut, IsFront, IsKept, IsSummary, life_of, kept_of, without, AreStopsOf, comes_first, is_stop, stopped_product, stops_in, made_batch, known_at, standing_of, AreAt}
pub use Rattle.mv_repository.specs.Repository.{counts_of, items_from, new_repository, product_of, serials_of, with_applied, RepositoryState}
pub use Rattle.mv_repository.specs.Pack.{code_of, effect_of, ChangeNamesStatus, is_active, is_recalled, is_withdrawn, known_pack, pack_state, revert_effect, held_of}
pub use Rattle.mv_repository.specs.inside.Tables.{AreTablesOf, IsInquiriesOf, inquiry_after, query_of, waits_after}
pub use Rattle.mv_repository.specs.Order.{Ascends, IsOrderOf, ordered, passes, rank}
pub use Rattle.mv_repository.specs.inside.Shelf.{AreShelfOf, AreSlots, IsNamed, IsOfProduct, IsSpot, Writes, no_slot, serial_of, serials_uploaded, IsAgain, IsPut, IsRefreshed, kept_by, kept_in, listing_of, lists, no_shelf, nothing_kept, shelf_by}
pub use Rattle.mv_repository.specs.Bearing.{entry_at, entry_of, first_stops, first_upload, is_before, is_status_of, message_in, pack_grown, recalled_batches, standing_at, statuses_of, withdrawn_products}
pub use Rattle.mv_repository.specs.Verdict.{answer_after, answer_to, found_active, found_explained, found_of, joint_verdict, local_verdict, verdict_when}
pub use Rattle.std.specs.List.Sorted.{IsPartitionPoint}
pub use Rattle.mv_repository.specs.Words.{APackKey, AllByRecursion, AnEntry, TheBlock, IfOk, IfSome, IsTrue, List, OnErr, OnOk, Some, YieldsFirstRef, [], bytes_eq, false, filter, fold, get_or, is_some, item_count, length, map, not, slice_get, option_and_then, option_copied, option_map, option_map_or, take, true, ℕ, list_any, map_spare, AnItem, has_party}
