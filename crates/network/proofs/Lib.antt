mod Counts
mod Lowest
mod Numbers
pub mod Ranges
