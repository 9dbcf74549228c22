pub mod Pictures
pub mod Rectangles
pub mod FrameBytes
pub mod Unscaled
pub mod Images
pub mod Shown
pub mod LayersInPlace
pub mod Ppm
