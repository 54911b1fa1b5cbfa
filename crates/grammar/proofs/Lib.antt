pub mod Numerals
pub mod Sayings
pub mod Reading
pub mod OneSaying
