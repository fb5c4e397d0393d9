pub mod Image
pub mod Ranges
