pub mod Rights
mod Replies
pub mod Wakes
mod Firsts
mod Wholes
pub mod WholeWakes
mod Faults
mod Expiries
