pub mod Refuted
pub mod Unique
