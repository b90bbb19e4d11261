mod Freshness
mod Views
mod Dying
pub mod Reaches
pub mod Runs
pub mod Saving
mod Places
mod Sleeping
mod Requeues
mod Trims
mod Expiring
mod Leaving
mod Renewing
mod Reiniting
mod Sparing
