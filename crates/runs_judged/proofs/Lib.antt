mod Lives
mod Turns
mod Moments
mod Facts
mod Placing
mod Fitting
mod Ending
mod Inside
mod Spacing
mod ReadBack
mod Wholes
mod Counts
mod Judging
pub mod Scripts
