pub mod Hashes
pub mod inside
