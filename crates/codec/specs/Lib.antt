pub mod Over
pub mod Pieces
