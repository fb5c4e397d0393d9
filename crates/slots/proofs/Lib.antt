pub mod Figures
pub mod Trip
pub mod Kept
