pub mod Counted
pub mod Bytes
pub mod Things
pub mod Denials
