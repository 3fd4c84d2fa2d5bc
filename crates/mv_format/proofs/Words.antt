-- The names of the library, of the definitions, and of the crates below that the proofs cite, passed on from one place. Declares nothing.
pub use Rattle.json.specs.Lex.{tokens}
pub use Rattle.json.specs.Token.{Token, begin_array, begin_object, end_array, end_object, key}
pub use Rattle.mv_format.specs.Fields.{field_name}
pub use Rattle.mv_format.specs.Kinds.{Asking, kind_named, names_of, shape_of}
unfoldable pub use Rattle.mv_format.specs.Kinds.{kind_at}
pub use Rattle.mv_format.specs.Reading.{member_at, of_32_bits, text_at}
unfoldable pub use Rattle.mv_format.specs.Reading.{market_lists_at, message_at, number_at, read_at}
pub use Rattle.mv_format.specs.Requests.{asked_at, read_line}
unfoldable pub use Rattle.mv_format.specs.Requests.{read_request, request_at}
pub use Rattle.mv_format.specs.Words.{AllByRecursion, Character, IsMarket, LineFault, LineField, LineKind, Market, Open, Request, Step, items_of, items_view, list_all, read_market, strings, view, whole}
pub use Rattle.mv_format.specs.Writing.{entry_of, members_of, members_where}
unfoldable pub use Rattle.mv_format.specs.Writing.{tokens_of}
pub use Rattle.mv_format.specs.declared.line_fault.LineFault.TheVariants.{Kind, Pack, Unknown}
pub use Rattle.mv_format.specs.inside.LineFields.{AreAll, Asks, BeginWithFields, BeginWithPart, HasFields, IsMet, IsPart, LinePart, Meets, asked_by, market_item, market_list, met_of, read_all, with_front}
pub use Rattle.mv_format.specs.inside.LineFields.LinePart.{Message, Number, Text}
unfoldable pub use Rattle.mv_format.specs.inside.LineFields.{walked_lists_at}
pub use Rattle.mv_format.specs.inside.Writing.{entry_tokens, member_tokens}
pub use Rattle.mv_json.proofs.CallerLemmas.{AreMet, all_met, all_some, begun_shorter, converted_some, each_back, known_only, none_met, none_unknown, one_more_met, read_is_legal, reads_back, stands, text_begins, utf8_test, whole_begins}
pub use Rattle.mv_json.specs.Members.{keys_of}
pub use Rattle.mv_json.specs.Reading.{as_list, each_of, map_err, ◌and_then◌}
pub use Rattle.serde_json.specs.Data.{Data, Items, Members, array, item, no_items, object, string, unsigned}
pub use Rattle.serde_json.specs.Find.{as_number, as_object, as_str, as_u64, get}
pub use Rattle.std.specs.declared.alloc.AllocError.{AllocError}
pub use Rattle.std.proofs.Common.{All, Bool, Contains, Err, IfOk, IfSome, IsUtf8, List, None, Ok, OnOk, Option, Result, Some, [], ap, append_assoc, arith, cond, drop, false, flat_map, inl, inr, is_some, length, lt-ltb, map, ok_or, option_and_then, option_map, refl, rules, subst, sym, take, take_all, true, ℕ, ◌++◌, ◌<◌, ◌^◌, ◌∙◌, ◌∷◌, ◌≡◌, ◌≢◌, ◌≤◌, ◌⊎◌}
pub use Rattle.std.proofs.lemmas.List.Elements.{Contains-append_left, Contains-push}
pub use Rattle.std.proofs.lemmas.Bool.Decides.{Decides-and, nat_tests}
pub use Rattle.std.proofs.lemmas.Grind.{common_steps}
