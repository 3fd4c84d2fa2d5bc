pub mod Words
pub mod OrderLemmas
pub mod GatheringLemmas
pub mod TrailLemmas
