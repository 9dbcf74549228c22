pub mod Answers
pub mod Fences
pub mod Naming
pub mod Targets
pub mod Whole
pub mod Order
pub mod Groups
