pub mod Framebuffers
pub mod Device
pub mod Commands
