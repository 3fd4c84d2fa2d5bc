pub mod Words
pub mod AnswerLemmas
pub mod CallerLemmas
