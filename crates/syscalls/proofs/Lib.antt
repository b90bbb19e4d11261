pub mod Buckets
pub mod Changes
pub mod Calls
pub mod Moves
pub mod Told
