-- What the proofs of other crates cite of the list machine. No other file of this folder is cited elsewhere.
pub use Rattle.mv_machine.proofs.PutLemmas.{All-front, routed_count-few, slice_get-append, slice_get-behind, stamps_suffice}
pub use Rattle.mv_machine.proofs.HeadlineLemmas.{change-follows, headline, headline-same, headline_further}
pub use Rattle.mv_machine.proofs.StepLemmas.{Change, IsSound, applied, asked, change-keeps, change-sound, closed, dropped, drops, nothing, opening-keeps, opening-site, opening-sound, record-entered, relayed, repeated, routed, runs-push, step-changes, submitted}
