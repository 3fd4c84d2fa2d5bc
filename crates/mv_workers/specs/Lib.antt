pub mod Work
pub mod Plans
pub mod inside
