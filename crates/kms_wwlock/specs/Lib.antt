pub mod Objects
pub mod Table
pub mod Calls
pub mod Waits
pub mod Standing
pub mod InStep
