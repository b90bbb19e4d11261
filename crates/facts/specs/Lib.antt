pub mod Chances
pub mod Facts
pub mod Lives
pub mod Orders
