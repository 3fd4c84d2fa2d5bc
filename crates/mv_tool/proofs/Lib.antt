pub mod Words
pub mod CommandLemmas
pub mod WorkLemmas
