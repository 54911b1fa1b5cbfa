pub mod Aligned
pub mod Largest
pub mod Rules
pub mod Managed
