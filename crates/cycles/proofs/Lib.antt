pub mod Tables
pub mod Seeking
mod Naming
mod Tallying
