pub mod Answering
pub mod Swaps
pub mod OutFences
pub mod OutLabels
pub mod Commits
