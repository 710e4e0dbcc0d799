pub mod Papers
pub mod Views
pub mod OneForm
