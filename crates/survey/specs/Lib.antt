pub mod Counting
pub mod Ends
pub mod Model
pub mod Changes
