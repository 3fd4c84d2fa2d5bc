-- The names of the library, of the definitions, and of the crates below that several files take, passed on from one place. Declares nothing.
-- Elsewhere such a file is called Words; here that is the name of a module.
unfoldable pub use Rattle.clap.proofs.OnLiterals.{clap_on_literals}
pub use Rattle.clap.specs.Lexer.{strip_byte, usize_max}
pub use Rattle.clap.specs.Words.{App, FailsBy, ReadsOne, fault_of, is_simple_and_free, new_app, with_rule}
pub use Rattle.clap.specs.declared.builder.value_parser.ValueParser.TheVariants.{String, Unsigned}
pub use Rattle.mv_words.specs.Words.{ExplainAsks, HasNoMinus, OptionAsks, WritesTurns, code_rule, command_line}
pub use Rattle.std.proofs.Common.{List, None, Result, Some, [], ap, append-nil, append_assoc, ap₂, arith, codes, false, fold, inl, inr, length, refl, sym, true, ℕ, ◌++◌, ◌∙◌, ◌∷◌, ◌≡◌}
pub use Rattle.std.specs.Str.Parse.{ExplainsUnsignedError, HasUnsignedDigitsIfOk, IsNumeral, ParsesUnsigned, without_leading_plus}
