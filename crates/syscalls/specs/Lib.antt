pub mod Memories
pub mod Kernels
pub mod Answers
