pub mod Pixels
pub mod PlacedPairs
