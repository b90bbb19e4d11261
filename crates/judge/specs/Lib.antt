pub mod Reasons
pub mod Replies
pub mod Evidence
pub mod Judgements
