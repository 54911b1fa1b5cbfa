pub mod Facts
pub mod Words
pub mod State
pub mod Search
pub mod Replacing
pub mod Walked
