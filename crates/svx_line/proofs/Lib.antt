pub mod Splitting
mod Judging
