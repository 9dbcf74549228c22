pub mod Screens
pub mod Strands
