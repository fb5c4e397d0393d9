pub mod Own
pub mod Defects
pub mod Seconds
pub mod Sheet
pub mod Calls
pub mod Worked
