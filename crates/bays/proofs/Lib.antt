pub mod Bytes
pub mod Trip
pub mod Kept
pub mod InBay
