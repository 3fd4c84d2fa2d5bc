pub mod Names
pub mod AskLemmas
