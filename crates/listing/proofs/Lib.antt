pub mod Places
pub mod Refuted
pub mod Texts
pub mod Unique
