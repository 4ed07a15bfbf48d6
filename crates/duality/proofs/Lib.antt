pub mod Exchange
pub mod Duality
pub mod Theorems
