-- What the proofs of other crates cite of the record. No other file of this folder is cited elsewhere.
pub use Rattle.mv_hub.proofs.HubLemmas.{gained_other, is_open-append, link_items-push, routed_from-append}
