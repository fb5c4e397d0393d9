pub mod Bounds
pub mod Heads
pub mod Joins
pub mod Laws
pub mod Refuted
pub mod Stretch
pub mod Unique
