pub mod Conditions
pub mod Told
