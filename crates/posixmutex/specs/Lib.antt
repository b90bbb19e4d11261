pub mod Objects
pub mod Histories
pub mod Words
