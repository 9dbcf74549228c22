pub mod Pairs
pub mod Resolving
pub mod Told
pub mod Four
