-- The names of the library, of the definitions, and of the crates below that several files take, passed on from one place. Declares nothing.
pub use Rattle.mv_engine.specs.Lines.{IsUnended, Line, line_at, line_limit, lines_from, lines_limit, lines_of, pieces, rest_from, unless_empty, whole_from}
pub use Rattle.mv_engine.specs.Output.{WrotePart}
pub use Rattle.mv_engine.specs.Replies.{AreReplies, GotNoReply, IsReplies, said_texts, text_lines}
pub use Rattle.mv_engine.specs.Served.{AreAnswered, AreWhole, EndedAt, Halted, Served, StoppedAt, StopsAt, TookAtMostOne, WroteAt}
pub use Rattle.mv_engine.specs.declared.fault.ServeFault.{ServeFault}
pub use Rattle.mv_engine.specs.declared.fault.ServeFault.TheVariants.{LineTooLong, Memory, Read, Start, TooManyLines, Write}
pub use Rattle.mv_engine.specs.inside.Taking.{StopsIn, Taken}
pub use Rattle.std.proofs.Common.{All, IfErr, List, None, OnOk, Option, Result, Some, [], ap, append-nil, append_assoc, arith, drop, drop-cons, flat_map, get_or, inl, inr, length, length-append, length-drop, map, refl, rules, subst, suc, sym, take, take_at, ℕ, ◌++◌, ◌+◌, ◌-◌, ◌<◌, ◌∙◌, ◌∷◌, ◌≡◌, ◌≢◌, ◌≤◌}
pub use Rattle.std.proofs.KnownBytes.{Appends-trans, Consumes-kept, Consumes-trans, Consumes-whole}
pub use Rattle.std.proofs.lemmas.Bool.{eq-eqb, ne_eqb}
pub use Rattle.std.proofs.lemmas.Bool.Decides.{nat_tests}
pub use Rattle.std.proofs.lemmas.Grind.{common_steps, flat_map-append}
pub use Rattle.std.proofs.lemmas.List.{map-append, nil_from_length, take-append-drop}
pub use Rattle.std.proofs.lemmas.List.Elements.{All-cons, filter_map-append}
pub use Rattle.std.proofs.lemmas.Result.{IfErr-weaker, MatchResult-weaker, err_from_is_err_and, on_ok_weaker}
pub use Rattle.std.specs.Io.BufRead.{strip_last}
pub use Rattle.std.specs.Io.KnownBytes.{Appends, Consumes, IsAtEnd, Keeps}
