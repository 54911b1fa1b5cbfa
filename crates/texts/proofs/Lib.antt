pub mod Putting
pub mod Decimals
pub mod Hexadecimals
pub mod Lengths
pub mod Outputs
