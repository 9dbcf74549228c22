pub mod PlaceLemmas
pub mod FenceIds
pub mod Writes
pub mod Previous
pub mod Lockables
pub mod There
pub mod CheckedLemmas
pub mod Bits
pub mod Counts
pub mod Lefts
pub mod LeftLemmas
pub mod TailPlaces
pub mod Kept
pub mod Marking
pub mod SettingUp
pub mod Queries
pub mod MachineAnswers
pub mod NotYetAnswers
pub mod StepLemmas
pub mod LegalLeft
mod OneCrtc
mod OneCommit
