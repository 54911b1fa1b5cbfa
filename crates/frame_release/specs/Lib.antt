pub mod Releasing
pub mod Release
