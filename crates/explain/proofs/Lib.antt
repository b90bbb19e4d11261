pub mod Earlier
pub mod Showing
pub mod Ends
pub mod Beginnings
pub mod Titles
pub mod Declared
pub mod Letters
pub mod Pointing
pub mod Allowing
pub mod Recalling
mod Claims
