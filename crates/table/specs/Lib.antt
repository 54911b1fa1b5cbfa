pub mod Layout
pub mod Sound
