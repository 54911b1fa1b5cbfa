pub mod Links
pub mod Chains
