pub mod Changes
pub mod Counting
pub mod Kept
pub mod Moves
pub mod Places
pub mod Rings
pub mod Rows
