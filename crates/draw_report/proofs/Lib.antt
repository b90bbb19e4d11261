pub mod Ends
mod Parts
mod Plain
mod Sufficing
mod Histories
mod Success
