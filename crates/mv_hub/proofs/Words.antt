-- The names of the library, of the definitions, and of the crates below that the proofs cite, passed on from one place. Declares nothing.
pub use Rattle.mv_hub.specs.BatchLinks.{IsAscendingList, IsChain, IsDescendant, link_in}
unfoldable pub use Rattle.mv_hub.specs.BatchLinks.{linked_to}
pub use Rattle.mv_hub.specs.Hub.{HubState, items_on, new_hub, next_items, sent_of, with_relayed}
unfoldable pub use Rattle.mv_hub.specs.Hub.{busy_party, is_busy}
pub use Rattle.mv_hub.specs.Links.{link_items_after}
unfoldable pub use Rattle.mv_hub.specs.Links.{gained, link_items}
pub use Rattle.mv_hub.specs.Listing.{Listing, is_same_listing}
pub use Rattle.mv_hub.specs.Parties.{all_markets, has_market, has_twice, served_by, serves_one}
pub use Rattle.mv_hub.specs.Record.{is_open, product_in, routed_count, routed_from}
unfoldable pub use Rattle.mv_hub.specs.Record.{last_product}
pub use Rattle.mv_hub.specs.Targets.{is_query, is_target}
unfoldable pub use Rattle.mv_hub.specs.Targets.{is_reached, reach}
pub use Rattle.mv_hub.specs.Words.{Global, IsMarket, MARKETS_LIMIT, PartySet, Vec, lookup, place_of, Product, insert_key, BatchKey, Carried, Closed, Entry, HasRoom, IsSquare, Item, Message, PARTIES_LIMIT, Receipt, Routed, Sending, cell, has_party, is_same_batch, insert_all, new_sending, parties_in, pointwise, put}
pub use Rattle.mv_hub.specs.inside.Kept.{AreTables, Carries, IsKept, IsRouting, PushesItems, PushesRow, carried_by, gain_of, link_at, receipt_to, sent_table, AreNoted, Gathers, LinkTable, catalogue_after, catalogue_in, is_found, linked_in, no_catalogue}
pub use Rattle.mv_link.proofs.CallerLemmas.{find-none_at, find-those, listed-in}
pub use Rattle.mv_pairs.proofs.CallerLemmas.{cell-map, cell-put_other, cell-put_same, put-each_pair, put-map, put-map_same, square-map, square-put, table-all}
pub use Rattle.std.proofs.Common.{Bool, Contains, List, None, Option, Some, [], ap, append-nil, append_assoc, arith, bytes_eq, cond, drop, drop-cons, eqb, false, find, get_or, inl, inr, length, length-set, map, nat_eq, nat_lt, not, option_to_list, refl, replicate, rules, set, suc, sym, take, true, unwrap_or, zero, ℕ, ◌&&◌, ◌++◌, ◌+◌, ◌-◌, ◌<◌, ◌==◌, ◌||◌, ◌↔◌, ◌∙◌, ◌∷◌, ◌≡◌, ◌≢◌, ◌≤◌, ◌⊎◌}
pub use Rattle.std.proofs.lemmas.Bool.{and_parts, cases_eq, eq-eqb, ne_eqb}
pub use Rattle.std.proofs.lemmas.Bool.Decides.{nat_tests}
pub use Rattle.std.proofs.lemmas.Grind.{common_steps, elements, flat_map-append}
pub use Rattle.std.proofs.lemmas.List.{get_or-replicate, get_or_default, length-map, length-replicate, length-take-le, map-append, replicate_more, same_from_push, take-append-drop, take_more}
pub use Rattle.std.proofs.lemmas.List.Elements.{filter_map-append}
pub use Rattle.std.proofs.lemmas.List.Folds.{list_any-append}
pub use Rattle.std.proofs.lemmas.List.Sums.{fold-append}
pub use Rattle.std.proofs.lemmas.Map.Views.{Contains-from_any}
pub use Rattle.std.proofs.lemmas.Result.{IfOk-weaker, err_from_is_err_and}
pub use Rattle.std.proofs.lemmas.Slice.Eq.{bytes_eq-Decides}
pub use Rattle.std.specs.List.{All, last_or, list_any}
pub use Rattle.std.specs.Option.{option_or}
