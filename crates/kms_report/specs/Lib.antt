pub mod Images
pub mod Right
pub mod Strands
pub mod Telling
pub mod Told
