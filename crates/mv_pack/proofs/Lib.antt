pub mod Words
pub mod TextLemmas
pub mod MarketLemmas
pub mod CodeLemmas
pub mod ExpiryLemmas
pub mod CallerLemmas
