pub mod Words
pub mod PartLemmas
pub mod OutputLemmas
pub mod RepliesLemmas
pub mod LineLawsLemmas
