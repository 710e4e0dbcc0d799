pub mod Formats
pub mod Numbers
pub mod Tables
pub mod Leaves
pub mod Views
