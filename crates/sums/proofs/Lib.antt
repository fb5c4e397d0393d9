pub mod Joins
pub mod Sums
