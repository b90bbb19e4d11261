pub mod Closings
pub mod Spread
