pub mod Loads
pub mod Locks
pub mod Unlocks
pub mod Refusals
pub mod Expiries
