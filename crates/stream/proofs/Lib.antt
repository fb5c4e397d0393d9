pub mod Calls
pub mod Lates
pub mod Taking
pub mod Streams
pub mod Counts
pub mod Listed
pub mod Figures
