pub mod Image
pub mod Ranges
pub mod Bays
