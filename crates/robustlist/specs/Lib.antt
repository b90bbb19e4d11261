pub mod Standings
pub mod Link
pub mod Unlink
pub mod Words
pub mod Lists
pub mod LinkLaws
pub mod UnlinkLaws
