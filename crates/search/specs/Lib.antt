pub mod Labels
pub mod Moves
pub mod Paths
pub mod Networks
pub mod Sides
pub mod Priced
pub mod Demands
