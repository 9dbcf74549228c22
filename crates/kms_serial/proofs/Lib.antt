pub mod Starting
pub mod Executing
pub mod Checking
pub mod Committing
pub mod Shown
pub mod Naming
