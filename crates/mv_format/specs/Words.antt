-- The names of the library, and of the crates below that the definitions cite, passed on from one place. Declares nothing.
pub use Rattle.json.specs.Token.{Token, begin_object, end_object, key}
pub use Rattle.mv_format.specs.declared.field.LineField.{LineField}
pub use Rattle.mv_format.specs.declared.kind.LineKind.{LineKind}
pub use Rattle.mv_format.specs.declared.line_fault.LineFault.{LineFault}
pub use Rattle.mv_format.specs.declared.line_fault.LineFault.TheVariants.{Kind, Memory, Message as InMessage, Missing, NotJson, NotObject, Pack, Unknown}
pub use Rattle.mv_format.specs.declared.members.Member.{Member}
pub use Rattle.mv_format.specs.declared.request.Request.{Request}
pub use Rattle.mv_format.specs.declared.request.Request.TheVariants.{Open, Step}
pub use Rattle.mv_json.specs.Members.{first_unknown}
pub use Rattle.mv_json.specs.Messages.{json_value, read_message, value_of}
pub use Rattle.mv_json.specs.Reading.{GivesOr, as_list, each_of, map_err, whole_number, ◌and_then◌}
pub use Rattle.mv_json.specs.Values.{members_with, strings, whole}
pub use Rattle.mv_json.specs.declared.fault.MessageFault.{MessageFault}
pub use Rattle.mv_machine.specs.declared.reply.Reply.{Reply}
pub use Rattle.mv_message.specs.declared.message.Message.{Message}
pub use Rattle.mv_pack.specs.Code.{IsCode, read_code}
pub use Rattle.mv_pack.specs.Gtin.{IsGtin, read_gtin}
pub use Rattle.mv_pack.specs.Market.{IsMarket, read_market}
pub use Rattle.mv_pack.specs.declared.fault.PackFault.{PackFault}
pub use Rattle.mv_pack.specs.declared.fault.PackFault.TheVariants.{Character, Market}
pub use Rattle.serde_json.specs.Data.{Data, Items, Members, array, boolean, item, member, no_items, no_members, null, object, string}
pub use Rattle.serde_json.specs.Find.{as_array, as_object, as_str, get}
pub use Rattle.serde_json.specs.View.{items_of, items_view, view}
pub use Rattle.std.specs.List.{AllByRecursion, list_all}
pub use Rattle.std.specs.Option.{option_map_or}
