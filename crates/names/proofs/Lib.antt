pub mod Counted
pub mod Refuted
pub mod Same
pub mod Unique
