pub mod Ends
pub mod Offices
pub mod Marks
pub mod Refuted
pub mod Unique
