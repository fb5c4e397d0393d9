pub mod Voids
pub mod Discards
pub mod Answered
pub mod Refuted
pub mod Unique
