pub mod Lacking
pub mod Applying
pub mod Answers
pub mod Moves
