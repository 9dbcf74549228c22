pub mod Lookups
pub mod Kept
pub mod Meanings
pub mod Sound
pub mod Cycles
mod Rows
mod Places
mod Ties
pub mod Held
mod InMachine
