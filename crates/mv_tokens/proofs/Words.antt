-- The names of the library and of the definitions that the proofs cite, passed on from one place. Declares nothing.
pub use Rattle.json.proofs.Printed.Decimals.{IsNumber-decimal}
pub use Rattle.json.proofs.Printed.Numbers.{in_word-ended, lex-number}
pub use Rattle.json.specs.Lex.{between, in_string, token}
unfoldable pub use Rattle.json.specs.Lex.{lex, punctuate}
pub use Rattle.json.specs.Run.{is_plain, is_stop}
pub use Rattle.json.specs.Text.{plain}
unfoldable pub use Rattle.json.specs.Text.{content}
pub use Rattle.json.specs.Token.{string}
pub use Rattle.json.specs.Written.{PlainBetween}
pub use Rattle.serde_json.proofs.Numbers.{number_of-decimal}
pub use Rattle.std.proofs.Common.{Bool, List, Some, [], ap, append_assoc, arith, cond, decimal, drop, eqb, false, get_or, inl, inr, leb, length, length-drop, ltb, map, nat_eq, refl, replicate, suc, sym, take, true, zero, ℕ, ◌%◌, ◌*◌, ◌++◌, ◌+◌, ◌-◌, ◌/◌, ◌<◌, ◌^◌, ◌∷◌, ◌≡◌, ◌≤◌, ◌∙◌}
pub use Rattle.std.proofs.Math.Nat.{zero-div}
pub use Rattle.std.proofs.lemmas.Bool.{cases_lt}
pub use Rattle.std.proofs.lemmas.Bool.Decides.{Decides-eqb, nat_tests}
pub use Rattle.std.proofs.lemmas.Fmt.{decimal_digit, decimal_step}
pub use Rattle.std.proofs.lemmas.List.{drop-drop, drop-map, drop-take, drop_all, drop_more, get_or_past, length-map, take_all}
pub use Rattle.std.proofs.lemmas.List.Sums.{prefix_len-le-length}
pub use Rattle.std.proofs.lemmas.Nat.{shr-shr}
pub use Rattle.std.proofs.lemmas.Simd.{first_set_mask_l, length-chunk, mask_l-mod, none_from_empty_mask, run_in_chunk_fails}
pub use Rattle.std.proofs.lemmas.Slice.Eq.{starts_is}
pub use Rattle.std.proofs.lemmas.Str.{IsCharBoundary-after_ascii, IsCharBoundary-start, IsUtf8-from_ascii}
pub use Rattle.std.specs.List.{prefix_len, starts_with}
pub use Rattle.std.specs.Str.{IsCharBoundary}
pub use lib.Bits.{bit_or}
pub use lib.Count.{count_trailing_zeros}
pub use lib.Lanes.{chunk, mask_l, top, zip2}
