pub mod Buffers
pub mod LoadsFirst
pub mod OwnWords
pub mod Runs
