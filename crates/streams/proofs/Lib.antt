pub mod Writers
pub mod Readers
pub mod Listed
