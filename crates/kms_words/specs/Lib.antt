pub mod Fitting
pub mod Listed
pub mod Named
pub mod Numbered
pub mod Packed
pub mod Printed
