pub mod Bytes
pub mod Output
pub mod Put
pub mod Text
