pub mod Pieces
mod Mutexes
mod Truths
