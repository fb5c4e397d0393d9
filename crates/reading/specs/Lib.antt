pub mod Listing
pub mod Turn
