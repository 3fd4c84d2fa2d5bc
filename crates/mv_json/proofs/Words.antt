-- The names of the library, of the definitions, and of the crates below that the proofs cite, passed on from one place. Declares nothing.
pub use Rattle.json.proofs.Grammar.{left, members_end, members_more, skip_value-shorter, value-begin_array, value-begin_object, value_is}
pub use Rattle.json.specs.Json.{members, value}
unfoldable pub use Rattle.json.specs.Json.{items}
pub use Rattle.json.specs.Lex.{tokens}
pub use Rattle.json.specs.Token.{Token, begin_array, begin_object, end_array, end_object, key}
pub use Rattle.mv_json.specs.Fields.{field_name, names_in}
pub use Rattle.mv_json.specs.Limits.{most_markets, most_serials, most_text_bytes}
pub use Rattle.mv_json.specs.Meanings.{AreLegal, AreSpelled, IsListOf, Making, Meaning, Values, code, exactly, first_fault, made_at, pack_standing, part_of, text_of}
pub use Rattle.mv_json.specs.Members.{HasOnly, first_unknown, keys_of}
pub use Rattle.mv_json.specs.Messages.{message_version, read_bytes, value_in, value_of}
unfoldable pub use Rattle.mv_json.specs.Messages.{read_message}
pub use Rattle.mv_json.specs.Met.{BeginWith}
pub use Rattle.mv_json.specs.Parts.{BeginWithMessage}
pub use Rattle.mv_json.specs.Reading.{each_of, read_items, whole_number, ◌and_then◌}
unfoldable pub use Rattle.mv_json.specs.Reading.{field_at, free_text_at, list_at, national_at, read_at, standing_at, texts_at}
pub use Rattle.mv_json.specs.Shapes.{IsIn, IsLegal, Reads, SpellsFound, contents_of, fields_of, form_name, form_of, found_of, found_value, found_version, making_of, meaning_of, names_of, pack_found, present_at, present_fields}
unfoldable pub use Rattle.mv_json.specs.Shapes.{form_at, message_at, present_of, version_at}
pub use Rattle.mv_json.specs.Tokens.{Puts, tokens_of}
pub use Rattle.mv_json.specs.Values.{since_two, strings, whole}
pub use Rattle.mv_json.specs.Words.{AllByRecursion, Field, IsCode, Message, MessageFault, One, PackFault, Two, Version, items_of, items_view, list_all, list_any, members_view, option_map_or, read_code, view}
pub use Rattle.mv_json.specs.declared.part.Entry.{Entry}
pub use Rattle.mv_json.specs.declared.part.Met.{Met}
pub use Rattle.mv_json.specs.declared.part.Part.{Part}
pub use Rattle.mv_json.specs.inside.Parts.{BeginWithPart, BeginWithTexts, HasEntries, HasMet, IsPart, IsPlace, IsTaken, IsThere, deep_in, entry, entry_name}
unfoldable pub use Rattle.mv_json.specs.inside.Parts.{ArePlaced, IsOneOf, field_number, there}
pub use Rattle.mv_json.specs.inside.Shapes.{HasWords}
pub use Rattle.mv_json.specs.inside.Tokens.{members_of, members_put, version_member}
unfoldable pub use Rattle.mv_json.specs.inside.Tokens.{PutsValue}
pub use Rattle.mv_message.specs.declared.found.Found.{Found}
pub use Rattle.mv_message.specs.declared.found.Found.TheVariants.{Absent, Present}
pub use Rattle.mv_message.specs.declared.standing.Standing.{Standing}
pub use Rattle.mv_pack.proofs.CallerLemmas.{read_code_is_code, read_code_of, read_expiry_is_expiry, read_expiry_text, read_gtin_is_gtin, read_gtin_of}
pub use Rattle.mv_pack.specs.Market.{IsMarket, read_market}
pub use Rattle.mv_pack.specs.declared.key.PackKey.{PackKey}
pub use Rattle.serde_json.proofs.Texts.{print-outline}
pub use Rattle.serde_json.specs.Data.{Data, Items, Members, array, item, member, no_items, no_members, number, object, put, string, unsigned}
pub use Rattle.serde_json.specs.Find.{as_bool, as_null, as_str, get, get_member}
pub use Rattle.serde_json.specs.Read.{converted, max_depth, number_of, of_items, of_json, of_members, read}
pub use Rattle.serde_json.specs.Written.{compact_text, items_outline, members_outline, outline}
pub use Rattle.serde_json.specs.declared.value.Value.{Value}
pub use Rattle.std.proofs.Common.{All, Bool, Contains, IsTrue, IsUtf8, List, None, Ok, Option, Result, Some, String, [], ap, append-nil, append_assoc, arith, bytes_eq, cond, drop, false, find, get_or, is_some, length, length-set, map, max, not, option_map, refl, rules, set, string_bytes, subst, suc, sym, take, true, vec_capacity, vec_len, ℕ, ◌&&◌, ◌*◌, ◌++◌, ◌+◌, ◌-◌, ◌<◌, ◌^◌, ◌∙◌, ◌∷◌, ◌≡◌, ◌≢◌, ◌≤◌}
pub use Rattle.std.proofs.lemmas.List.{get_or-map, get_or-set_other, get_or-set_same, get_or_default, get_or_push, length-map, length_push, map-append, take_all}
pub use Rattle.std.proofs.lemmas.List.Elements.{All-contains, All-map, All-push, All-set, Contains-append_left, Contains-get_or, Contains-push}
pub use Rattle.std.proofs.lemmas.Str.{IsUtf8-string_bytes}
unfoldable pub use Rattle.std.specs.List.Sorted.{IsStrictlySortedBy}
pub use Rattle.std.specs.Ordering.{is_lt, nat_cmp}
pub use Rattle.std.specs.Prelude.{IfOk}
pub use Rattle.std.specs.declared.alloc.AllocError.{AllocError}
pub use Rattle.std.specs.declared.cmp.Ordering.{Ordering}
pub use Rattle.std.specs.declared.cmp.Ordering.TheVariants.{Less}
