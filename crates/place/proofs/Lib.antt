pub mod Records
pub mod Numbers
pub mod Marks
pub mod Unique
pub mod Refuted
