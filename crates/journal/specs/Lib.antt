pub mod Notes
pub mod Marks
pub mod Table
pub mod Views
pub mod Prepared
