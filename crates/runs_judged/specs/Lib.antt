pub mod Written
pub mod Judged
