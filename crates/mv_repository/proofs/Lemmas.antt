-- The names and the lemmas that answers cite, passed on from one place. Declares nothing.
pub use Rattle.mv_repository.proofs.Words.{AreAt, AreShelfOf, AreSlots, AreStopsOf, IsChanged, IsNamed, IsPut, IsSpot, IsWritten, Writes, ShelfParts, SlotTable, slice_get, slice_get-get_or, get_or_from_slice_get, slice_get_within, keyed, no_slot, same_text, serial_of, serials_uploaded, shelf_by, Bool, IfSome, IsAgain, IsKept, IsShelfOf, Kept, List, LogEntry, None, Option, Made, Own, ShelfTable, Slot, Some, [], ap, arith, bytes_eq, comes_first, common_steps, cond, effect_in, effect_of, entry_at, false, fold, fold-append, get_or, get_or_append_left, get_or_default, get_or_push, history_of, insert_key, is_listed, kept_by, kept_in, keys_of, length, life_of, listing_of, lists, lookup, map, may_stop, nat_tests, next_in, no_entry, no_shelf, not, nothing_kept, option_and_then, pack_state, refl, rules, serials_of, shelf_of, stopped_product, stops_in, subst, sym, take, take_all, take_at, take_more, kept_of, true, unwrap_or, without, ℕ, ◌∙◌, ◌≡◌, ◌≤◌, ◌++◌, ◌∷◌, ◌+◌, made_batch, AllByRecursion, AreTablesOf, IsInquiriesOf, IsRefreshed, ListingTable, Tables, elements, is_recall_of, is_same_batch, is_withdrawal_of, lasting_effect, length-set, set, set-get_or, true≢false, is_ok, OnOk, Result, ◌-◌}
pub use Rattle.mv_repository.proofs.TrackLemmas.{IsCutFor, not_twice, parted, stays_at, put-ascend, put-known, put-late, put-unknown, last-blocks, late-before, late-front, late-fold}
pub use Rattle.mv_repository.proofs.KeptLemmas.{HasFirst, life_batch, text-self, first-added}
pub use Rattle.mv_repository.proofs.TableLemmas.{StopsNone, log-length, log-split, longer}
pub use Rattle.mv_repository.proofs.SlotLemmas.{AreSamePacks, IsShelved, no-shelf-yet, serials-at, shelf-same, shelf-seen, shelf-written, shelved-none, shelves-follow, upload-serials, found-own, is-changed, keys_keyed, none-changed, own-changed, own-kept, own-set, own-there, own-within, spot-none, spot-there, written-behind, written-own, written-there}
pub use Rattle.mv_repository.proofs.UploadLemmas.{ArePacksOf, product-upload, batch-kept, batch-noted, status-others, upload-adds, upload-all, upload-names, count-products, count-recalled, found-any, new-more, new_count}
pub use Rattle.mv_repository.proofs.CountedLemmas.{AreCounted, counts-whole, slots_counted}
pub use Rattle.mv_repository.proofs.StopLemmas.{NoMaster, first_place, recall-added, refreshed_more, shelf-again, shelf-empty, stop-away, stop-does, stop-form, stop-leaves, stop-passes, stops-stand, withdrawal-added}
pub use Rattle.mv_repository.proofs.ProductLemmas.{map_err, few-at, few-more, master-in, masters-at, none-noted, on_both, on_err, on_map, other-noted, shelves-at, stops-at, tables-follow, tables-mastered, tables-noted, tables-same, comes_late, masters-late-at, masters-latest-at, product-follows, product_found, uploaded-count}
pub use Rattle.mv_repository.proofs.InquiriesLemmas.{verdict_known, few_in}
pub use Rattle.mv_repository.proofs.HistoryLemmas.{history-at, lent-places}
