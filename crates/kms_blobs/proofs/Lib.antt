pub mod Things
pub mod Denials
