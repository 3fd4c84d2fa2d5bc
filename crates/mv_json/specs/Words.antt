-- The names of the library, and of the crates below that the definitions cite, passed on from one place. Declares nothing.
pub use Rattle.json.specs.Token.{Token, key}
pub use Rattle.mv_json.specs.declared.fault.MessageFault.{MessageFault}
pub use Rattle.mv_json.specs.declared.fault.MessageFault.TheVariants.{Count, Kind, Memory, Missing, NotJson, NotObject, Pack, TextLength, Unknown}
pub use Rattle.mv_json.specs.declared.field.Field.{Field}
pub use Rattle.mv_json.specs.declared.form.Form.{Form}
pub use Rattle.mv_json.specs.declared.form.Version.{Version}
pub use Rattle.mv_json.specs.declared.form.Version.TheVariants.{One, Two}
pub use Rattle.mv_message.specs.Standings.{standing_name, standing_named}
pub use Rattle.mv_message.specs.declared.message.Message.{Message}
pub use Rattle.mv_pack.specs.Code.{IsCode, read_code}
pub use Rattle.mv_pack.specs.Expiry.{IsExpiry, expiry_text, read_expiry}
pub use Rattle.mv_pack.specs.Gtin.{IsGtin, read_gtin}
pub use Rattle.mv_pack.specs.Market.{IsMarket, read_market}
pub use Rattle.mv_pack.specs.Moment.{IsMoment, read_moment}
pub use Rattle.mv_pack.specs.declared.fault.PackFault.{PackFault}
pub use Rattle.serde_json.specs.Data.{Data, Items, Members, array, boolean, item, member, no_items, no_members, null, number, object, string, unsigned}
pub use Rattle.serde_json.specs.Find.{as_array, as_bool, as_null, as_number, as_object, as_str, as_u64, get}
pub use Rattle.serde_json.specs.Read.{converted, number_of, of_json, read}
pub use Rattle.serde_json.specs.View.{items_of, items_view, members_view, view}
pub use Rattle.serde_json.specs.Written.{compact_text, outline}
pub use Rattle.std.specs.Cmp.Lexicographic.{slice_cmp}
pub use Rattle.std.specs.List.{AllByRecursion, list_all, list_any}
pub use Rattle.std.specs.List.Sorted.{IsStrictlySortedBy}
pub use Rattle.std.specs.Option.{ok_or, option_map_or, option_or, option_transpose}
pub use Rattle.std.specs.Ordering.{nat_cmp}
pub use Rattle.std.specs.Result.{result_err, result_map_both, result_ok}
