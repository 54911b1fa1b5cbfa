pub mod Chains
pub mod Shells
pub mod Making
