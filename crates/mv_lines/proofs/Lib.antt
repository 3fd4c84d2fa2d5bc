pub mod Words
pub mod CanonLemmas
pub mod StrictLemmas
