pub mod Cells
pub mod Coding
pub mod Replies
pub mod Threads
