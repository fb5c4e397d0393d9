pub mod Counted
pub mod Example
pub mod Levels
pub mod Readable
pub mod Refuted
pub mod Unique
