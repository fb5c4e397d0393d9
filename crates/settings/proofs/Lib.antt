pub mod Ranges
pub mod Unique
pub mod Refuted
