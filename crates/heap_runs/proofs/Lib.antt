pub mod Lending
pub mod Making
pub mod Counting
pub mod Cells
