pub mod Lines
pub mod Output
pub mod Replies
pub mod Served
pub mod LineLaws
pub mod inside
