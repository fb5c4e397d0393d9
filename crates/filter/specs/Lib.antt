pub mod Filter
pub mod Stat
pub mod Rows
pub mod Since
pub mod Stood
