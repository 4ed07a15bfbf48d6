pub mod Written
pub mod Allowed
