-- The names of the library, of the definitions, and of the crates below that several files take, passed on from one place. Declares nothing.
pub use Rattle.mv_engine.specs.declared.fault.ServeFault.{ServeFault}
pub use Rattle.mv_lines.specs.Sessions.{Open}
pub use Rattle.mv_tool.specs.Working.{IsOutput, Worked, parts_of}
pub use Rattle.mv_tool.specs.inside.Telling.{ToldStrict, output_of}
pub use Rattle.mv_words.specs.Words.{IsMistake}
pub use Rattle.std.proofs.Common.{Bool, Err, IfErr, IfOk, IfSome, List, None, Ok, OnOk, Option, Result, Some, [], append_assoc, arith, inl, refl, string_bytes, ℕ, ◌∙◌, ◌∷◌, ◌≡◌, ◌⊎◌}
pub use Rattle.std.proofs.lemmas.Bool.Decides.{nat_tests}
pub use Rattle.std.proofs.lemmas.Result.{IfOk-weaker, err_from_is_err_and}
pub use Rattle.std.specs.Io.KnownBytes.{Appends, Consumes}
