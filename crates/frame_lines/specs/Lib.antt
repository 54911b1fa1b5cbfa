pub mod Command
pub mod Text
