pub mod Words
pub mod LinkLemmas
pub mod NumberLemmas
pub mod PartySetLemmas
pub mod CallerLemmas
