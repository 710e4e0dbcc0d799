pub mod Laws
pub mod Numbers
pub mod Digits
pub mod Tables
pub mod Chunks
pub mod Leaves
pub mod Comparing
pub mod Paths
