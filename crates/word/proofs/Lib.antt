pub mod Fields
pub mod Flags
pub mod Refuted
pub mod Unique
