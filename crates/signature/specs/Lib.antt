pub mod StandIn
pub mod Signatures
pub mod Views
pub mod Counting
