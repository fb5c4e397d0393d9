pub mod Chunks
pub mod Refuted
pub mod Unique
