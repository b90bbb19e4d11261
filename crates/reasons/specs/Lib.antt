pub mod Reasons
pub mod Truths
