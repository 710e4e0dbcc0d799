pub mod Windows
pub mod Written
pub mod Parts
pub mod Roots
pub mod Arrays
