pub mod Output
pub mod Summaries
