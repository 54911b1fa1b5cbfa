pub mod Cutting
pub mod Gathering
pub mod Feeding
pub mod Going
