pub mod Nexts
pub mod Wrongs
pub mod Known
pub mod Laws
pub mod Near
