pub mod Stored
pub mod HeldStates
pub mod Locking
pub mod BackingOff
pub mod Returned
pub mod Delivered
pub mod Executed
pub mod Signalled
