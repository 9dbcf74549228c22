pub mod Tables
pub mod OpenThings
pub mod Kept
