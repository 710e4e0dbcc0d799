pub mod Writes
pub mod Forms
pub mod Leaves
