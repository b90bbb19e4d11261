pub mod Rights
pub mod Races
mod Replies
mod Trims
mod Wakes
mod Wholes
pub mod WholeWakes
pub mod Addresses
pub mod OwnPlaces
mod AtTheCell
pub mod WholeLists
pub mod Steps
pub mod Alone
pub mod Once
pub mod Expiries
