pub mod Stream
pub mod Counts
pub mod Figures
