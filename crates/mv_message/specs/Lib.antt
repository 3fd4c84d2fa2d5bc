pub mod Standings
pub mod Kinds
pub mod inside
