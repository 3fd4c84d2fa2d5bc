pub mod Words
pub mod SystemLemmas
