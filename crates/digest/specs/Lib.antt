pub mod Sha256
pub mod Constants
pub mod Running
