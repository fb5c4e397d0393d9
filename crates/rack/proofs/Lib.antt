pub mod Numbers
pub mod Records
pub mod Refuted
pub mod Unique
