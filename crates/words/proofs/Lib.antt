pub mod Ranges
pub mod Refuted
pub mod Unique
pub mod Words
