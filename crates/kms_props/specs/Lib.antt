pub mod Flags
pub mod Registers
pub mod Rows
pub mod Setting
