-- What the proofs of other crates cite of reading codes, product codes, expiries and markets. No other file of this folder is cited elsewhere.
pub use Rattle.mv_pack.proofs.CodeLemmas.{read_code_is_code, read_code_of}
pub use Rattle.mv_pack.proofs.ExpiryLemmas.{read_expiry_is_expiry, read_expiry_text}
pub use Rattle.mv_pack.proofs.TextLemmas.{read_gtin_is_gtin, read_gtin_of}
pub use Rattle.mv_pack.proofs.MarketLemmas.{read_market_is_market, read_market_of}
