-- What the proofs of other crates cite of the stamps of a log, and of logs that say the same about a pack. No other file of this folder is
-- cited elsewhere.
pub use Rattle.mv_repository.proofs.HistoryLemmas.{same_about, HasNoStampTwice, distinct-stamps, stamp_at, stamp_in}
