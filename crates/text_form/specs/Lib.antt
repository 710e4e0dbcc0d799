pub mod Chains
pub mod Texts
pub mod OneText
