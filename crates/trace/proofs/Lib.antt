pub mod Takes
pub mod Scans
pub mod Unique
pub mod Refuted
