pub mod Drafted
pub mod Generated
pub mod Lines
pub mod Overlong
pub mod ReadAnew
pub mod Scheduled
pub mod Stated
pub mod Within
