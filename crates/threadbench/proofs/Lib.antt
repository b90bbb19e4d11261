mod Each
mod Hands
mod Answers
mod Sections
mod Whole
mod Noting
mod Beginnings
mod Turning
mod Heeding
mod Waiting
pub mod Living
mod Begun
