pub mod Changes
pub mod Refuted
pub mod Unique
