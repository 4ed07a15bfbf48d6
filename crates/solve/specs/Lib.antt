pub mod Solutions
pub mod Chains
