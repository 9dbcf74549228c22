mod Histories
mod Going
mod Settling
mod Turned
mod Rounding
mod Finishing
mod Replayed
pub mod Apart
