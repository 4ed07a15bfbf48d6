pub mod Lines
pub mod Script
pub mod Reading
pub mod Told
