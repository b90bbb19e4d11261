pub mod Layouts
pub mod Refusals
pub mod Addresses
pub mod Chains
pub mod Mappings
