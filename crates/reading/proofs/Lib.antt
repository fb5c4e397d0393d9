pub mod Lines
pub mod Turns
pub mod Refills
pub mod Refuted
