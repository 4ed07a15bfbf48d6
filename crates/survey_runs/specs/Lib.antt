pub mod Stack
pub mod Ran
