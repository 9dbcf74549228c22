pub mod Steps
pub mod Shown
pub mod FromSound
pub mod Unscaled
