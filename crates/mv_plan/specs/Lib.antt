pub mod Drafts
pub mod Planning
pub mod Reading
pub mod inside
