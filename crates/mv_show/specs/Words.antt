-- The names of the library and of the crates below that several files take, passed on from one place. Declares nothing.
pub use Rattle.mv_engine.specs.Lines.{Line}
pub use Rattle.mv_engine.specs.declared.fault.ServeFault.{ServeFault}
pub use Rattle.mv_engine.specs.declared.fault.ServeFault.TheVariants.{Memory, Write}
pub use Rattle.mv_format.specs.declared.answered.Answered.{Answered}
pub use Rattle.mv_hub.specs.declared.entry.Entry.{Entry}
pub use Rattle.mv_lines.specs.Sessions.{IsTaken, Open}
pub use Rattle.mv_link.specs.declared.item.Item.{Item}
pub use Rattle.mv_link.specs.declared.item.Item.TheVariants.{Carried}
pub use Rattle.mv_machine.specs.State.{State, log_of, submissions_of}
pub use Rattle.mv_message.specs.declared.message.Message.{Message}
pub use Rattle.mv_message.specs.declared.message.Message.TheVariants.{Answer, Master, Query, Recall, Status, Upload, Withdraw}
pub use Rattle.mv_pack.specs.Keys.{batch_key, is_same_batch, is_same_pack, pack_key}
pub use Rattle.mv_repository.specs.declared.effect.Effect.{Effect}
pub use Rattle.mv_repository.specs.declared.entry.LogEntry.{LogEntry}
pub use Rattle.mv_repository.specs.declared.verdict.Verdict.{Verdict}
pub use Rattle.mv_show.specs.declared.subject.Subject.{Subject}
pub use Rattle.mv_show.specs.declared.subject.Subject.TheVariants.{Pack, Party, Product}
pub use Rattle.serde_json.specs.Data.{Data, array, boolean, object, string}
pub use Rattle.serde_json.specs.Written.{compact_text}
pub use Rattle.std.specs.Io.KnownBytes.{Appends, Consumes}
pub use Rattle.std.specs.List.{flat_map, range_with_len}
