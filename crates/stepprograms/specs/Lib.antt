pub mod Accesses
pub mod Programs
