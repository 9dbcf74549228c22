pub mod Slots
pub mod Frames
pub mod Routes
pub mod SetsProperty
pub mod OnceDuplicated
pub mod WholeDevice
