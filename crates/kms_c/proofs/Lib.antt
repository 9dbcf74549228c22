pub mod Known
pub mod Replied
