pub mod Continuing
pub mod ReportBehind
pub mod SpeltDigests
pub mod SpeltLines
pub mod SpeltReplies
pub mod SpeltReports
