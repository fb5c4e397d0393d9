pub mod Bytes
pub mod Parts
pub mod Ranges
pub mod Refuted
pub mod Unique
