mod ReachRows
pub mod Standing
