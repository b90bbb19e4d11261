pub mod Phases
pub mod States
pub mod Certificates
pub mod Waiters
pub mod Walks
pub mod Laws
