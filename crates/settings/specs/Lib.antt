pub mod Settings
pub mod Ranges
