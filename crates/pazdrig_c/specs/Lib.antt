pub mod Structs
pub mod Accesses
pub mod Running
pub mod Walks
pub mod Plans
pub mod Shorts
pub mod Expiring
