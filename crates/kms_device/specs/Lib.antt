pub mod Steps
pub mod Kernels
pub mod Turns
pub mod Asking
pub mod Attempts
pub mod Trying
pub mod Committing
