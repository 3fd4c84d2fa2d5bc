-- The names of the library, of the definitions, and of the crates below that several files take, passed on from one place. Declares nothing.
-- Elsewhere such a file is called Words; here that is the name of a file of mv_words that is passed on.
pub use Rattle.mv_engine.specs.Output.{WrotePart}
pub use Rattle.mv_engine.specs.declared.fault.ServeFault.{ServeFault}
pub use Rattle.mv_engine.specs.declared.fault.ServeFault.TheVariants.{Memory, Start, Write}
pub use Rattle.mv_explain.specs.Explained.{first_unknown, lines_of}
pub use Rattle.mv_machine.specs.State.{State}
pub use Rattle.mv_ends.specs.Report.{report_text}
pub use Rattle.mv_tool.specs.declared.status.Status.{Status}
pub use Rattle.mv_tool.specs.declared.status.Status.TheVariants.{Done, Failed, Refused}
pub use Rattle.std.specs.Io.KnownBytes.{Appends, Keeps}
