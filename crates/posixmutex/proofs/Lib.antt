pub mod Owners
pub mod Objects
pub mod Words
pub mod Steps
pub mod Reasons
pub mod Replies
