pub mod Kinds
pub mod Stops
pub mod Holding
pub mod Views
pub mod Steps
pub mod Offers
pub mod Starts
