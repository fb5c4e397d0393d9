pub mod Bounds
pub mod Refuted
pub mod Rows
pub mod Runs
pub mod Since
pub mod Stood
pub mod Unique
