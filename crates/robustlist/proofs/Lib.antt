pub mod Places
pub mod Chains
pub mod Agreement
pub mod Links
pub mod Unlinks
pub mod Lists
