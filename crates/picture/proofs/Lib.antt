pub mod Columns
pub mod Going
pub mod Own
pub mod Letters
pub mod Shown
pub mod Room
pub mod Roomy
pub mod Used
mod States
mod Positions
