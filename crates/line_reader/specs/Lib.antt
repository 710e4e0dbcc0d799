pub mod Finds
pub mod Paths
