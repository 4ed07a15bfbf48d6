pub mod Orbit
pub mod Distinct
pub mod Following
pub mod Faces
pub mod Reached
pub mod Telling
