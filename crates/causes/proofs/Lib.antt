pub mod OneCause
pub mod Unique
pub mod Refuted
