pub mod Bodies
pub mod DigestBytes
pub mod FitReplies
pub mod Grouping
pub mod LinesBack
pub mod RepliesBack
pub mod SeenFits
pub mod VerdictNumbers
