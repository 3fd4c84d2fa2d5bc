pub mod Words
pub mod PutLemmas
pub mod StepLemmas
pub mod HeadlineLemmas
pub mod CallerLemmas
