pub mod Shells
pub mod Chains
