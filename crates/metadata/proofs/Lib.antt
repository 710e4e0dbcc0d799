pub mod PaperLaws
pub mod Sound
