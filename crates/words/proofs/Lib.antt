pub mod Tests
pub mod Ors
pub mod Parts
pub mod Pad
pub mod Zeros
pub mod Moving
pub mod Writing
