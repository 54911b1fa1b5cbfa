pub mod Yielding
