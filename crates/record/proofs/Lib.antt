pub mod Records
pub mod Unique
pub mod Refuted
