pub mod Shapes
pub mod Nodes
pub mod Units
pub mod Statements
