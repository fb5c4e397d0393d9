pub mod Answered
pub mod Refusals
pub mod Refuted
pub mod Turns
pub mod Unique
