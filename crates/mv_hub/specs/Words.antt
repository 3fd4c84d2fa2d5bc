-- The names of the library, and of the crates below that the definitions cite, passed on from one place. Declares nothing.
pub use Rattle.indexmap.specs.IndexSet.{insert_all, insert_key}
pub use Rattle.mv_hub.specs.declared.entry.Entry.{Entry}
pub use Rattle.mv_hub.specs.declared.entry.Entry.TheVariants.{Closed, Routed}
pub use Rattle.mv_hub.specs.declared.fault.HubFault.{HubFault}
pub use Rattle.mv_hub.specs.declared.fault.HubFault.TheVariants.{AlreadyClosed, NoParty, ServedTwice, StrangerParty, TooMany}
pub use Rattle.mv_hub.specs.declared.fault.RouteFault.{RouteFault}
pub use Rattle.mv_link.specs.PartySets.{has_party, parties_in}
pub use Rattle.mv_link.specs.Sending.{EndsWithHeld, HasRoom, IsWindow, Sending, again_fault, new_sending, relay_fault}
pub use Rattle.mv_link.specs.declared.item.Item.{Item}
pub use Rattle.mv_link.specs.declared.item.Item.TheVariants.{Carried, Receipt}
pub use Rattle.mv_link.specs.declared.limits.TheConstants.{NUMBER_LIMIT, PARTIES_LIMIT}
pub use Rattle.mv_link.specs.declared.party_set.PartySet.{PartySet}
pub use Rattle.mv_message.specs.declared.message.Message.{Message}
pub use Rattle.mv_message.specs.declared.message.Message.TheVariants.{Answer, Master, Query, Recall, Repack, Status, Upload, Withdraw}
pub use Rattle.mv_message.specs.declared.message.Product.{Product}
pub use Rattle.mv_pack.specs.Keys.{is_same_batch}
pub use Rattle.mv_pack.specs.Market.{IsMarket, place_of}
pub use Rattle.mv_pack.specs.declared.key.BatchKey.{BatchKey}
pub use Rattle.mv_pack.specs.declared.market.TheConstants.{MARKETS_LIMIT}
pub use Rattle.mv_pairs.specs.Pairs.{IsSquare, cell, put}
pub use Rattle.std.specs.Cmp.{IsEquivalence, and_equiv, nat_eq_equiv, on_equiv, partial_equiv_from_equiv}
pub use Rattle.std.specs.Cmp.Lexicographic.{lists_equiv, nat_list_eq_equiv, options_equiv, pointwise, slice_cmp}
pub use Rattle.std.specs.List.{filter_map, last_or, list_any, range_with_len}
pub use Rattle.std.specs.Option.{option_copied, option_eq, option_map_or, option_or}
pub use Rattle.std.specs.Map.{lookup}
pub use Rattle.std.specs.declared.alloc.Global.{Global}
pub use Rattle.std.specs.declared.vec.Vec.{Vec}
