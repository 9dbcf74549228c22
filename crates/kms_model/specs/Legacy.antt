pub mod LegacyRules
pub mod LegacyCalls
pub mod LegacyLines
pub mod Translation
pub mod Translated
pub mod Screen
