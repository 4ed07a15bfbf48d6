pub mod Held
pub mod Steady
pub mod Pushes
pub mod Ways
pub mod Ends
pub mod Progress
