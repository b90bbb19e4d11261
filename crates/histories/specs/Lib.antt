pub mod Limits
pub mod Faults
pub mod Forms
pub mod Reading
pub mod Histories
pub mod Written
