pub mod Same
pub mod Two
pub mod Differs
