pub mod Reading
pub mod Reports
pub mod Spelt
