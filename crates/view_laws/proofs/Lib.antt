pub mod Bearings
pub mod Swapped
pub mod Three
pub mod Shown
