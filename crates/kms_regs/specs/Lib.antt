pub mod File
pub mod Latches
pub mod Layers
pub mod Rewritten
pub mod StepLaws
pub mod Words
pub mod Written
