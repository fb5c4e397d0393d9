pub mod Codes
pub mod Refuted
pub mod Unique
