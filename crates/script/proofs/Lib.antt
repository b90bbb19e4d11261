pub mod Names
mod Entries
pub mod Layouts
pub mod Firsts
pub mod Numbered
pub mod Lines
pub mod Bounds
pub mod Silences
mod Plays
mod Killing
mod Told
mod DeathsTold
mod Rests
mod Dying
pub mod Phases
