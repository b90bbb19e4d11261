pub mod Text
pub mod Replies
pub mod MutexLines
pub mod Tables
