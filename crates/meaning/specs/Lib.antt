pub mod Before
pub mod Same
pub mod Differs
