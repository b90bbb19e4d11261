pub mod Numerals
pub mod Spelling
pub mod Showing
pub mod Spacing
pub mod ReadBack
pub mod InRange
pub mod Only
