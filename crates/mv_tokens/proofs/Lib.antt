pub mod Words
pub mod LexLemmas
pub mod RunLemmas
