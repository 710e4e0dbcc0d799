pub mod Shrinks
pub mod Running
