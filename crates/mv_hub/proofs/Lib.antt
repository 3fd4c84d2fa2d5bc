pub mod Words
pub mod PartiesLemmas
pub mod HubLemmas
pub mod TrailLemmas
pub mod CallerLemmas
