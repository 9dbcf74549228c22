pub mod Areas
pub mod Changes
pub mod Images
pub mod Parts
pub mod Sources
