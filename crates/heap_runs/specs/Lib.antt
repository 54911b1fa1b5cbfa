pub mod Run
pub mod Text
pub mod Running
