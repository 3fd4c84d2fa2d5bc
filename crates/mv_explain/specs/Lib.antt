pub mod Sentences
pub mod Explained
