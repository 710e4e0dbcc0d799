pub mod Cutting
pub mod Halves
pub mod Among
pub mod Searching
pub mod Choosing
