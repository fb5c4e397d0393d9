pub mod Below
pub mod Refuted
pub mod Strips
pub mod Unique
