pub mod Words
pub mod ListLemmas
pub mod WritingLemmas
pub mod KeyOrderLemmas
pub mod RequestLawsLemmas
pub mod LineFieldsLemmas
pub mod CallerLemmas
