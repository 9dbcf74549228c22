pub mod Covered
pub mod Placing
pub mod Unscaled
