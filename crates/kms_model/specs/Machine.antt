pub mod Registers
pub mod State
pub mod Commits
pub mod Steps
pub mod Effects
pub mod Histories
pub mod Framebuffers
pub mod Waits
