pub mod Turns
pub mod States
pub mod Steps
pub mod Following
pub mod Counts
pub mod Kills
