pub mod NotOwned
