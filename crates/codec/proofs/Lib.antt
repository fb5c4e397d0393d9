pub mod Overs
pub mod Pieces
pub mod Refuted
pub mod Unique
