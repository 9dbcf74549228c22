pub mod BankLemmas
pub mod FewLayers
pub mod FileLemmas
pub mod LatchLaw
pub mod ModeWords
pub mod Pictured
pub mod RewrittenWords
pub mod Rows
pub mod SameWords
pub mod ShownWords
pub mod Signed
pub mod WordsBack
pub mod MachineEffects
mod OneCrtc
mod WordRows
pub mod TableBytes
