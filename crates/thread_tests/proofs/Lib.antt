mod Each
pub mod Owing
