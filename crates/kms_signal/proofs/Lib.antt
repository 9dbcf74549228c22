pub mod Places
pub mod Turns
pub mod SlotLemmas
pub mod FenceLemmas
pub mod InStepLemmas
pub mod StepLemmas
pub mod CommitsLeft
