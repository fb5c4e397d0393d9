pub mod Parts
pub mod Refuted
pub mod Unique
