pub mod Treatments
pub mod Alone
pub mod Ends
mod Asks
pub mod Steps
mod Lists
