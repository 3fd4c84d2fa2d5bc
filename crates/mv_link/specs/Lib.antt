pub mod Words
pub mod Frames
pub mod Receiving
pub mod Sending
pub mod Fault
pub mod PartySets
pub mod inside
