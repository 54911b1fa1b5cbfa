pub mod ListRules
pub mod Claims
