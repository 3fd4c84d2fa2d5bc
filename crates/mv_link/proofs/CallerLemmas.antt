-- What the proofs of other crates cite of links, of numbers below a count, and of sets of parties. No other file of this folder is cited elsewhere.
pub use Rattle.mv_link.proofs.LinkLemmas.{accepted_front, next-number, of_longer, one_more}
pub use Rattle.mv_link.proofs.NumberLemmas.{find-none_at, find-those, range-append}
pub use Rattle.mv_link.proofs.PartySetLemmas.{listed-in}
