pub mod Calls
pub mod Halves
pub mod Late
pub mod Parts
pub mod Refuted
pub mod Ssf
pub mod Unique
