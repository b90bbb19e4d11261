-- What the fixtures promise.
pub mod Fours
pub mod Outcomes
