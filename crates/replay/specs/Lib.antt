pub mod Replay
pub mod Entries
