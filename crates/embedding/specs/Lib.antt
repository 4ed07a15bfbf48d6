pub mod Walks
pub mod Rotation
pub mod Demands
pub mod Joins
pub mod Plans
pub mod Laws
pub mod Tables
