pub mod Journals
pub mod Writing
