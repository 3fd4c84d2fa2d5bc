-- The names of the library, of the definitions, and of the crates below that several files take, passed on from one place. Declares nothing.
pub use Rattle.mv_engine.specs.Lines.{Line, lines_from, pieces}
pub use Rattle.mv_engine.specs.Replies.{AreReplies, GotNoReply, said_texts}
pub use Rattle.mv_engine.specs.Served.{AreAnswered, Ended, EndedAt, Served, StoppedAt, TookAtMostOne}
pub use Rattle.std.proofs.Common.{Bool, Err, IfErr, IfSome, List, None, Ok, Result, Some, [], ap, arith, if◌then◌else◌, inl, inr, is_ok, map, refl, rules, subst, sym, true, ℕ, ◌&&◌, ◌∷◌, ◌≡◌}
pub use Rattle.std.specs.Io.KnownBytes.{Appends, Consumes}
pub use Rattle.std.specs.declared.option.Option.{Option}
pub use Rattle.std.proofs.lemmas.Option.{IfSome_then}
