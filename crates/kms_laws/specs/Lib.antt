pub mod Blankings
pub mod Ends
pub mod Laws
pub mod Longer
pub mod Numbers
pub mod TailsLeft
pub mod Once
pub mod Told
