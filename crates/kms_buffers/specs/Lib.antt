pub mod Places
pub mod Within
pub mod Things
