pub mod Chains
pub mod Twins
pub mod Papers
