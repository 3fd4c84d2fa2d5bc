-- What the proofs of other crates cite of the order of keys. No other file of this folder is cited elsewhere.
pub use Rattle.mv_format.proofs.KeyOrderLemmas.{ordered, wholes_ascend}
