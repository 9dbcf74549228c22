pub mod Places
pub mod Takers
pub mod Verdicts
pub mod Lates
pub mod Swapped
pub mod Applied
