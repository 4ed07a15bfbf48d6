pub mod Accepted
pub mod Valid
