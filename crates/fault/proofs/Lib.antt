pub mod Chains
pub mod Exits
