mod Asked
mod Taken
mod Decided
