-- The names of the library, and of the types of these crates, that the definitions cite, passed on from one
-- place. Declares nothing.
pub use Rattle.indexmap.specs.IndexMap.{spare as map_spare}
pub use Rattle.indexmap.specs.IndexSet.{insert_all, insert_key}
pub use Rattle.mv_link.specs.PartySets.{has_party}
pub use Rattle.mv_link.specs.declared.item.Item.TheVariants.{Carried, Receipt}
pub use Rattle.mv_link.specs.declared.item.Item.{Item, Item as AnItem}
pub use Rattle.mv_link.specs.declared.limits.TheConstants.{PARTIES_LIMIT}
pub use Rattle.mv_link.specs.declared.party_set.PartySet.{PartySet}
pub use Rattle.mv_message.specs.declared.found.Found.{Found}
pub use Rattle.mv_message.specs.declared.message.Message.TheVariants.{Answer, Master, Query, Recall, Status, Upload, Withdraw}
pub use Rattle.mv_message.specs.declared.message.Message.{Message}
pub use Rattle.mv_message.specs.declared.message.Product.{Product}
pub use Rattle.mv_message.specs.declared.standing.Standing.{Standing}
pub use Rattle.mv_pack.specs.Keys.{batch_key, is_same_batch, is_same_pack, pack_key}
pub use Rattle.mv_pack.specs.declared.key.BatchKey.{BatchKey}
pub use Rattle.mv_pack.specs.declared.key.PackKey.{PackKey, PackKey as APackKey}
pub use Rattle.mv_repository.specs.declared.blocks.Block.{Block, Block as TheBlock}
pub use Rattle.mv_repository.specs.declared.repository.Counts.{Counts}
pub use Rattle.mv_repository.specs.declared.effect.Effect.{Effect}
pub use Rattle.mv_repository.specs.declared.entry.LogEntry.{LogEntry, LogEntry as AnEntry}
pub use Rattle.mv_repository.specs.declared.held.Held.{Held}
pub use Rattle.mv_repository.specs.declared.slots.Slot.TheVariants.{Made, Own}
pub use Rattle.mv_repository.specs.declared.slots.Slot.{Slot}
pub use Rattle.mv_repository.specs.declared.stops.BatchStanding.{BatchStanding}
pub use Rattle.mv_repository.specs.declared.stops.Stop.TheVariants.{OfBatch, OfProduct}
pub use Rattle.mv_repository.specs.declared.stops.Stop.{Stop}
pub use Rattle.mv_repository.specs.declared.stops.Stops.{Stops}
pub use Rattle.mv_repository.specs.declared.verdict.Joint.TheVariants.{Decided, NotAsked, Pending}
pub use Rattle.mv_repository.specs.declared.verdict.Joint.{Joint}
pub use Rattle.mv_repository.specs.declared.verdict.Local.{Local}
pub use Rattle.mv_repository.specs.declared.verdict.Verdict.TheVariants.{Authentic, NotAuthentic}
pub use Rattle.mv_repository.specs.declared.verdict.Verdict.{Verdict}
pub use Rattle.std.specs.Iterator.{YieldsFirstRef, item_count}
pub use Rattle.std.specs.List.{AllByRecursion, Contains, IsDistinct, filter_map, flat_map, last_or, list_any}
pub use Rattle.std.specs.Map.{keys_of, lookup}
pub use Rattle.std.specs.Option.{option_and_then, option_copied, option_map, option_map_or, option_or, unwrap_or}
pub use Rattle.std.specs.Prelude.{Bool, IfOk, IfSome, IsTrue, List, None, OnErr, OnOk, Option, Some, [], bytes_eq, codes, drop, false, filter, find, fold, get_or, is_some, length, map, nat_eq, nat_lt, not, option_to_list, slice_get, take, true, ⊤, ℕ}
pub use Rattle.std.specs.Set.{distinct_count}
