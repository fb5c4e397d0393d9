pub mod Levels
pub mod Tandem
