pub mod Line
pub mod Next
