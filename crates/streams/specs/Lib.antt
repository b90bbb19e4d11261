pub mod Leaves
pub mod Pieces
pub mod Taken
pub mod Words
