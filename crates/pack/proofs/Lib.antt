pub mod Calls
pub mod Refuted
pub mod Trip
pub mod Unique
