pub mod Words
pub mod Site
pub mod Calls
pub mod inside
