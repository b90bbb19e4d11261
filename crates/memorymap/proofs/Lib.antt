pub mod Processes
pub mod Mappings
pub mod Entries
