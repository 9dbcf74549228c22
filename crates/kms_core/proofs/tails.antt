pub mod Marking
pub mod Writing
pub mod Latched
pub mod Flushing
pub mod Blanking
