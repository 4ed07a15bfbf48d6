pub mod Spans
pub mod Parts
pub mod Tokens
pub mod Verdicts
pub mod Told
