pub mod Turns
pub mod Rounds
pub mod Suspending
pub mod SleepAndWake
