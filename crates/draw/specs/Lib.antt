pub mod Tables
pub mod Shapes
pub mod Routes
pub mod Drawings
pub mod Outcomes
